-- An honest disk keeps what was written, whatever the device does.
use Rattle.std.proofs.Common.{◌≡◌, ◌≢◌, ℕ, inl, inr, Bool, IsTrue, List, [], ◌++◌, length, take, Option, Some, None, Result, Ok, Err, OnOk, OnErr, IfSome, sym, ap, ◌∙◌, subst}
use Rattle.std.specs.declared.random_state.RandomState.{RandomState}
use Rattle.file_device.specs.declared.place.Place.{Place}
use Rattle.file_device.specs.declared.slot.Slot.{Slot}
use Rattle.file_device.specs.Places.{place_of, slot_of, bytes_at, ChangesAt, IsFree, IsUnused, IsSound, AreKept}
use Rattle.file_device.proofs.Owned.{changed}

-- a disk that keeps the same in each slot in use
pub kept_same : (honest : Bool) (kept after : Slot → List ℕ) (keys : RandomState) (entries : List (ℕ × Place)) → AreKept honest kept keys entries → ((id : ℕ) (place : Place) → place_of entries id ≡ Some place → after (slot_of place) ≡ kept (slot_of place)) → AreKept honest after keys entries
kept_same honest kept after keys entries are same id place there =
    let is = are id place there in
    ((λ h. ap (take place.len) (same id place there) ∙ is.0 h), is.1)

-- a write to a slot in which no object lies, well or not
pub kept_beside : (honest : Bool) (kept after : Slot → List ℕ) (keys : RandomState) (entries : List (ℕ × Place)) (slot : Slot) → AreKept honest kept keys entries → IsFree entries slot → ((other : Slot) → other ≢ slot → after other ≡ kept other) → AreKept honest after keys entries
kept_beside honest kept after keys entries slot are free others =
    kept_same honest kept after keys entries are (λ id place there. others (slot_of place) (free id place there))

-- the end of a class in which no object lies
pub kept_cleared : (honest : Bool) (kept after : Slot → List ℕ) (keys : RandomState) (entries : List (ℕ × Place)) (class : ℕ) → AreKept honest kept keys entries → IsUnused entries class → ((other : Slot) → other.class ≢ class → after other ≡ kept other) → AreKept honest after keys entries
kept_cleared honest kept after keys entries class are unused others =
    kept_same honest kept after keys entries are (λ id place there. others (slot_of place) (unused id place there))

pub kept_entered : (honest : Bool) (kept : Slot → List ℕ) (keys : RandomState) (old new : List (ℕ × Place)) (id : ℕ) (place : Place) → AreKept honest kept keys old → ChangesAt old new id (Some place) → (IsTrue honest → take place.len (kept (slot_of place)) ≡ bytes_at place) → IsSound keys place → AreKept honest kept keys new
kept_entered honest kept keys old new id place are changes holds sound other found there =
    let P : Place → Type 0 = λ p. (IsTrue honest → take p.len (kept (slot_of p)) ≡ bytes_at p) × IsSound keys p in
    elim (changed old new id other (Some place) found changes there) [
      | inl new ↦ (let is : place ≡ found = cc in subst P is (holds, sound))
      | inr stays ↦ are other found stays.there
    ]

pub kept_removed : (honest : Bool) (kept : Slot → List ℕ) (keys : RandomState) (old new : List (ℕ × Place)) (id : ℕ) → AreKept honest kept keys old → ChangesAt old new id None → AreKept honest kept keys new
kept_removed honest kept keys old new id are changes other found there =
    elim (changed old new id other None found changes there) [
      | inl new ↦ (let no : ⊥ = cc in absurd no)
      | inr stays ↦ are other found stays.there
    ]

-- an index that is another one's
pub kept_along : (honest : Bool) (kept : Slot → List ℕ) (keys : RandomState) (old new : List (ℕ × Place)) → AreKept honest kept keys old → new ≡ old → AreKept honest kept keys new
kept_along honest kept keys old new are same =
    let P : List (ℕ × Place) → Type 0 = λ entries. AreKept honest kept keys entries in
    subst P (sym same) are

-- an object that is entered, or refused
pub kept_after_entry : {E : Type 0} (honest : Bool) (kept : Slot → List ℕ) (keys : RandomState) (old new : List (ℕ × Place)) (id : ℕ) (place : Place) (result : Result (Option Slot) E) → AreKept honest kept keys old → OnOk result (ChangesAt old new id (Some place)) → OnErr result (new ≡ old) → (IsTrue honest → take place.len (kept (slot_of place)) ≡ bytes_at place) → IsSound keys place → AreKept honest kept keys new
kept_after_entry honest kept keys old new id place (Ok left) are entered refused holds sound =
    kept_entered honest kept keys old new id place are entered holds sound
kept_after_entry honest kept keys old new id place (Err fault) are entered refused holds sound =
    kept_along honest kept keys old new are refused

-- what is written behind nothing is the whole
pub written_whole : (place : Place) (bytes none all : List ℕ) → bytes_at place ≡ all → all ≡ none ++ bytes → none ≡ [] → bytes_at place ≡ bytes
written_whole place bytes none all written extended empty = written ∙ (extended ∙ ap (λ (l : List ℕ). l ++ bytes) empty)

-- what an object's slot keeps after it was written
pub holds_written : (honest : Bool) (kept : Slot → List ℕ) (place : Place) (slot : Slot) (bytes : List ℕ) → slot_of place ≡ slot → place.len ≡ length (bytes_at place) → bytes_at place ≡ bytes → (IsTrue honest → take (length bytes) (kept slot) ≡ bytes) → IsTrue honest → take place.len (kept (slot_of place)) ≡ bytes_at place
holds_written honest kept place slot bytes at long same written h =
    ap (λ (s : Slot). take place.len (kept s)) at
    ∙ (ap (λ (n : ℕ). take n (kept slot)) (long ∙ ap (λ (l : List ℕ). length l) same)
    ∙ (written h ∙ sym same))

pub same_slot : (one other : Slot) → one.class ≡ other.class → one.number ≡ other.number → one ≡ other
same_slot one other classes numbers =
    ap (λ (class : ℕ). let slot : Slot = record { class = class; number = one.number } in slot) classes
    ∙ ap (λ (number : ℕ). let slot : Slot = record { class = other.class; number = number } in slot) numbers

-- what is said of a value that is there
pub at_some : {A : Type 0} (P : A → Type 0) (found : Option A) (value : A) → found ≡ Some value → IfSome found P → P value
at_some P found value is holds = subst (λ o. IfSome o P) is holds
