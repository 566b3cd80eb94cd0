-- Slots in use have their ids as owners, whatever the catalog does.
use Rattle.std.proofs.Common.{◌≡◌, ◌≢◌, ℕ, ◌<◌, ◌⊎◌, inl, inr, cond, eqb, List, Option, Some, None, slice_get, refl, sym, ap, ◌∙◌, subst}
use Rattle.std.specs.Option.{option_and_then, option_map, unwrap_or}
use Rattle.std.proofs.lemmas.Bool.Decides.{eqb_tells}
use Rattle.std.proofs.lemmas.Option.{slice_get_within}
use Rattle.file_device.specs.declared.ledger.Ledger.{Ledger}
use Rattle.file_device.specs.declared.place.Place.{Place}
use Rattle.file_device.specs.declared.slot.Slot.{Slot}
use Rattle.file_device.specs.Ledgers.{entry_at, count_of}
use Rattle.file_device.specs.Owners.{owner_in, count_in}
use Rattle.file_device.specs.Places.{place_of, slot_of, ChangesAt, IsFree, IsUnused, AreOwned}

-- what an index has that changed at an id: the new place at that id, or what stood before at another
pub record IsNew (id other : ℕ) (found : Option Place) (place : Place) : Type 0 where
  pub same : id ≡ other
  pub is : found ≡ Some place

pub record IsOld (old : List (ℕ × Place)) (id other : ℕ) (place : Place) : Type 0 where
  pub apart : id ≢ other
  pub there : place_of old other ≡ Some place

pub changed : (old new : List (ℕ × Place)) (id other : ℕ) (found : Option Place) (place : Place) → ChangesAt old new id found → place_of new other ≡ Some place → IsNew id other found place ⊎ IsOld old id other place
changed old new id other found place changes there =
    let is : cond (eqb id other) found (place_of old other) ≡ Some place = sym (changes other) ∙ there in
    elim (eqb_tells id other) [
      | inl e ↦ inl (record { same = e.1; is = sym (ap (λ b. cond b found (place_of old other)) e.0) ∙ is })
      | inr e ↦ inr (record { apart = e.1; there = sym (ap (λ b. cond b found (place_of old other)) e.0) ∙ is })
    ]

-- ---- a slot in which no object lies goes out or comes back

pub owned_beside : (entries : List (ℕ × Place)) (ledgers after : List Ledger) (slot : Slot) → AreOwned entries ledgers → IsFree entries slot → ((other : Slot) → other ≢ slot → owner_in after other ≡ owner_in ledgers other) → AreOwned entries after
owned_beside entries ledgers after slot owned free others id place there =
    others (slot_of place) (free id place there) ∙ owned id place there

pub owned_cleared : (entries : List (ℕ × Place)) (ledgers after : List Ledger) (class : ℕ) → AreOwned entries ledgers → IsUnused entries class → ((other : Slot) → other.class ≢ class → owner_in after other ≡ owner_in ledgers other) → AreOwned entries after
owned_cleared entries ledgers after class owned unused others id place there =
    others (slot_of place) (unused id place there) ∙ owned id place there

-- ---- an object that goes leaves its slot to nobody

same_id : (ledgers : List Ledger) (one two : Slot) (id other : ℕ) → owner_in ledgers one ≡ Some id → owner_in ledgers two ≡ Some other → one ≡ two → id ≡ other
same_id ledgers one two id other mine its same =
    let both : Some id ≡ Some other = sym mine ∙ (ap (owner_in ledgers) same ∙ its) in
    cc

pub left_by_entry : (old new : List (ℕ × Place)) (ledgers : List Ledger) (id : ℕ) (before place : Place) → AreOwned old ledgers → ChangesAt old new id (Some place) → IsFree old (slot_of place) → Some before ≡ place_of old id → IsFree new (slot_of before)
left_by_entry old new ledgers id before place owned changes free was other found there same =
    elim (changed old new id other (Some place) found changes there) [
      | inl new ↦ (
          let is : place ≡ found = cc in
          free id before (sym was) (sym (ap (λ (p : Place). slot_of p) is ∙ same)))
      | inr stays ↦
          stays.apart (sym (same_id ledgers (slot_of found) (slot_of before) other id (owned other found stays.there) (owned id before (sym was)) same))
    ]

pub left_by_removal : (old new : List (ℕ × Place)) (ledgers : List Ledger) (id : ℕ) (before : Place) → AreOwned old ledgers → ChangesAt old new id None → Some before ≡ place_of old id → IsFree new (slot_of before)
left_by_removal old new ledgers id before owned changes was other found there same =
    elim (changed old new id other None found changes there) [
      | inl new ↦ (let no : ⊥ = cc in no)
      | inr stays ↦
          stays.apart (sym (same_id ledgers (slot_of found) (slot_of before) other id (owned other found stays.there) (owned id before (sym was)) same))
    ]

-- ---- a class whose numbers were all looked at

in_class : (found : Option Ledger) (number id : ℕ) → option_and_then (λ (ledger : Ledger). entry_at ledger number) found ≡ Some id → number < unwrap_or (option_map (λ (ledger : Ledger). count_of ledger) found) 0
in_class None number id is = (let no : ⊥ = cc in absurd no)
in_class (Some ledger) number id is = slice_get_within ledger.entries.items number id is

pub unused_by_all : (entries : List (ℕ × Place)) (ledgers : List Ledger) (class : ℕ) → AreOwned entries ledgers → ((number : ℕ) → number < count_in ledgers class → IsFree entries (record { class = class; number = number })) → IsUnused entries class
unused_by_all entries ledgers class owned free id place there same =
    let below : place.number < count_in ledgers (slot_of place).class = in_class (slice_get ledgers (slot_of place).class) place.number id (owned id place there) in
    let P : ℕ → Type 0 = λ c. place.number < count_in ledgers c in
    free place.number (subst P same below) id place there (ap (λ (c : ℕ). let slot : Slot = record { class = c; number = place.number } in slot) same)

-- ---- no slot is two ids'

slot_apart : (entries : List (ℕ × Place)) (ledgers : List Ledger) (id other : ℕ) (place : Place) (found : Option Place) → AreOwned entries ledgers → Some place ≡ place_of entries id → other ≢ id → place_of entries other ≡ found → option_map (λ (p : Place). slot_of p) found ≡ Some (slot_of place) → ⊥
slot_apart entries ledgers id other place None owned mine apart its same = (let no : ⊥ = cc in no)
slot_apart entries ledgers id other place (Some there) owned mine apart its same =
    let at : slot_of there ≡ slot_of place = cc in
    apart (same_id ledgers (slot_of there) (slot_of place) other id (owned other there its) (owned id place (sym mine)) at)

pub slots_apart : (entries : List (ℕ × Place)) (ledgers : List Ledger) (id other : ℕ) (place : Place) → AreOwned entries ledgers → Some place ≡ place_of entries id → other ≢ id → option_map (λ (p : Place). slot_of p) (place_of entries other) ≡ Some (slot_of place) → ⊥
slots_apart entries ledgers id other place owned mine apart =
    slot_apart entries ledgers id other place (place_of entries other) owned mine apart refl
