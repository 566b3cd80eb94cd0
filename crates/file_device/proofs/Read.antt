-- What a read that found the same length and digest gives.
use Rattle.std.proofs.Common.{◌≡◌, ◌++◌, ℕ, Bool, true, false, IsTrue, List, take, Option, Some, Ok, sym, ap, ◌∙◌, subst}
use Rattle.std.specs.Option.{is_some, option_and_then, IfSome}
use Rattle.std.specs.FinMap.{get}
use Rattle.std.specs.declared.random_state.RandomState.{RandomState}
use Rattle.digests.specs.Collisions.{nothing_collided}
use Rattle.digests.specs.Digests.{GivesAs, GivesAlike}
use Rattle.far_device.specs.Calls.{Reads, ReadsLabelled, Appends}
use Rattle.file_device.specs.declared.place.Place.{Place}
use Rattle.file_device.specs.declared.slot.Slot.{Slot}
use Rattle.file_device.specs.Honesty.{is_honest_over}
use Rattle.file_device.specs.Places.{place_of, slot_of, bytes_at, contents_of, labels_of, state_of, IsSound, AreKept}
use Rattle.file_device.proofs.Contents.{contains_key-contents_of, get-at_place}

-- by what a disk is: one that gives what was written, or any other, where no digest collided
over : (honest : Bool) {P : Type 0} → (IsTrue honest → P) → (IsTrue nothing_collided → P) → IsTrue (is_honest_over honest) → P
over true by_disk by_digest h = by_disk h
over false by_disk by_digest h = by_digest h

-- what came is what was written
gives_written : (honest : Bool) (kept : Slot → List ℕ) (keys : RandomState) (entries : List (ℕ × Place)) (id : ℕ) (place : Place) (before after : List ℕ) → AreKept honest kept keys entries → Some place ≡ place_of entries id → (IsTrue honest → after ≡ before ++ take place.len (kept (slot_of place))) → (IsTrue nothing_collided → after ≡ before ++ bytes_at place) → IsTrue (is_honest_over honest) → IfSome (get (contents_of entries) id) (λ bytes. after ≡ before ++ bytes)
gives_written honest kept keys entries id place before after are found honestly same h =
    let P : Option (List ℕ) → Type 0 = λ o. IfSome o (λ bytes. after ≡ before ++ bytes) in
    let by_disk : IsTrue honest → after ≡ before ++ bytes_at place = λ yes. honestly yes ∙ ap (λ (l : List ℕ). before ++ l) ((are id place (sym found)).0 yes) in
    subst P (sym (get-at_place entries id place found)) (over honest by_disk same h)

pub reads_there : (honest : Bool) (kept : Slot → List ℕ) (keys : RandomState) (entries now : List (ℕ × Place)) (failures count id : ℕ) (place : Place) (before after : List ℕ) → AreKept honest kept keys entries → Some place ≡ place_of entries id → Appends before after → (IsTrue honest → after ≡ before ++ take place.len (kept (slot_of place))) → (IsTrue nothing_collided → after ≡ before ++ bytes_at place) → now ≡ entries → count ≡ failures → Reads (is_honest_over honest) (state_of entries failures) (state_of now count) id before after (Ok true)
reads_there honest kept keys entries now failures count id place before after are found appends honestly same stays counts = record {
  found = ap is_some found ∙ sym (contains_key-contents_of entries id);
  appended = appends;
  honest = gives_written honest kept keys entries id place before after are found honestly same;
  absent = tt;
  fault = tt;
  kept = ap contents_of stays;
  counted = counts;
}

pub reads_labelled : (honest : Bool) (kept : Slot → List ℕ) (keys : RandomState) (entries now : List (ℕ × Place)) (failures count id : ℕ) (place : Place) (label : ℕ) (before after : List ℕ) → AreKept honest kept keys entries → Some place ≡ place_of entries id → place.label ≡ Some label → Appends before after → (IsTrue honest → after ≡ before ++ take place.len (kept (slot_of place))) → (IsTrue nothing_collided → after ≡ before ++ bytes_at place) → now ≡ entries → count ≡ failures → ReadsLabelled (is_honest_over honest) (state_of entries failures) (state_of now count) (labels_of entries id) id before after (Ok (Some label))
reads_labelled honest kept keys entries now failures count id place label before after are found labelled appends honestly same stays counts = record {
  found = sym labelled ∙ ap (option_and_then (λ (p : Place). p.label)) found;
  appended = appends;
  honest = gives_written honest kept keys entries id place before after are found honestly same;
  absent = tt;
  fault = tt;
  kept = ap contents_of stays;
  counted = counts;
}

pub gives_alike : (keys : RandomState) (entries : List (ℕ × Place)) (id : ℕ) (place : Place) (before after : List ℕ) → IsSound keys place → Some place ≡ place_of entries id → GivesAs keys place.len place.digest before after → IfSome (get (contents_of entries) id) (λ bytes. GivesAlike keys bytes before after)
gives_alike keys entries id place before after sound found gives =
    let P : Option (List ℕ) → Type 0 = λ o. IfSome o (λ bytes. GivesAlike keys bytes before after) in
    let alike : GivesAlike keys (bytes_at place) before after = record {
      given = gives.given;
      appended = gives.appended;
      as_long = gives.as_long ∙ sound.0;
      alike = gives.alike ∙ sound.1;
    } in
    subst P (sym (get-at_place entries id place found)) alike
