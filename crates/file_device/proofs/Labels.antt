-- What stays where an object loses its label.
use Rattle.std.proofs.Common.{◌≡◌, ℕ, ◌≤◌, ◌^◌, inl, inr, Bool, IsTrue, cond, List, take, Option, Some, None, Result, Ok, Err, OnErr, refl, sym, ap, ◌∙◌, subst}
use Rattle.std.specs.Option.{option_map}
use Rattle.std.specs.Cmp.{nat_cmp_total}
use Rattle.std.specs.FinMap.{same_map, nat_cmp-IsAntisymmetric}
use Rattle.std.specs.declared.random_state.RandomState.{RandomState}
use Rattle.std.proofs.Math.Bridge.{le_prop}
use Rattle.std.proofs.lemmas.Bool.Decides.{eqb_tells}
use Rattle.far_device.specs.declared.fault.DeviceFault.{DeviceFault}
use Rattle.far_device.specs.DeviceState.{DeviceState, Contents}
use Rattle.far_device.specs.Calls.{Writes}
use Rattle.file_device.specs.declared.ledger.Ledger.{Ledger}
use Rattle.file_device.specs.declared.place.Place.{Place}
use Rattle.file_device.specs.declared.slot.Slot.{Slot}
use Rattle.file_device.specs.Owners.{owner_in}
use Rattle.file_device.specs.Places.{place_of, slot_of, bytes_at, contents_of, state_of, unlabelled, ChangesAt, Unlabels, IsSound, AreOwned, AreKept}
use Rattle.file_device.proofs.Owned.{changed}
use Rattle.file_device.proofs.Contents.{bytes_of, get-contents_of}

-- a place that is written back without its label, however its length is known to be short
pub unlabels : (old new : List (ℕ × Place)) (id : ℕ) (place : Place) (short : place.len ≤ 2 ^ 26) → Some place ≡ place_of old id → ChangesAt old new id (Some (record { number = place.number; len = place.len; digest = place.digest; label = None; written = place.written; short = short })) → Unlabels old new id
unlabels old new id place short found changes =
    let P : place.len ≤ 2 ^ 26 → Type 0 = λ known. ChangesAt old new id (Some (record { number = place.number; len = place.len; digest = place.digest; label = None; written = place.written; short = known })) in
    let Q : Option Place → Type 0 = λ o. ChangesAt old new id o in
    subst Q (ap (option_map unlabelled) found) (subst P (le_prop short place.short) changes)

-- ---- the bytes

bytes_of-unlabelled : (found : Option Place) → bytes_of (option_map unlabelled found) ≡ bytes_of found
bytes_of-unlabelled None = refl
bytes_of-unlabelled (Some place) = refl

same_bytes : (old new : List (ℕ × Place)) (id : ℕ) → Unlabels old new id → (other : ℕ) → bytes_of (place_of new other) ≡ bytes_of (place_of old other)
same_bytes old new id changes other =
    elim (eqb_tells id other) [
      | inl e ↦ ap bytes_of (changes other ∙ ap (λ b. cond b (option_map unlabelled (place_of old id)) (place_of old other)) e.0) ∙ (bytes_of-unlabelled (place_of old id) ∙ ap (λ (n : ℕ). bytes_of (place_of old n)) e.1)
      | inr e ↦ ap bytes_of (changes other ∙ ap (λ b. cond b (option_map unlabelled (place_of old id)) (place_of old other)) e.0)
    ]

pub same_contents : (old new : List (ℕ × Place)) (id : ℕ) → Unlabels old new id → contents_of new ≡ contents_of old
same_contents old new id changes =
    same_map nat_cmp_total nat_cmp-IsAntisymmetric (contents_of new) (contents_of old)
    (λ other. get-contents_of new other ∙ (same_bytes old new id changes other ∙ sym (get-contents_of old other)))

pub writes_unlabelled : (before : DeviceState) (old new : List (ℕ × Place)) (failures id : ℕ) (bytes : List ℕ) (result : Result (Unit {0}) DeviceFault) → Writes before (state_of old failures) id bytes result → Unlabels old new id → Writes before (state_of new failures) id bytes result
writes_unlabelled before old new failures id bytes result writes changes =
    let P : Contents → Type 0 = λ contents. Writes before (record { contents = contents; failures = failures }) id bytes result in
    subst P (sym (same_contents old new id changes)) writes

pub refused_unlabelled : (old now new : List (ℕ × Place)) (id : ℕ) (result : Result (Unit {0}) DeviceFault) → OnErr result (now ≡ old) → Unlabels now new id → OnErr result (contents_of new ≡ contents_of old)
refused_unlabelled old now new id (Ok done) refused changes = tt
refused_unlabelled old now new id (Err fault) refused changes = same_contents now new id changes ∙ ap contents_of refused

-- ---- slots and owners

-- what a place was before it lost its label
record Was (found : Option Place) (place : Place) : Type 0 where
  pub before : Place
  pub there : found ≡ Some before
  pub is : unlabelled before ≡ place

was : (found : Option Place) (place : Place) → option_map unlabelled found ≡ Some place → Was found place
was None place is = (let no : ⊥ = cc in absurd no)
was (Some before) place is = record { before = before; there = refl; is = cc }

-- what holds of each place, and of each without its label
holds_unlabelled : (P : ℕ → Place → Type 0) (old new : List (ℕ × Place)) (id : ℕ) → Unlabels old new id → ((other : ℕ) (place : Place) → place_of old other ≡ Some place → P other place) → ((other : ℕ) (place : Place) → P other place → P other (unlabelled place)) → (other : ℕ) (place : Place) → place_of new other ≡ Some place → P other place
holds_unlabelled P old new id changes each without other place there =
    elim (changed old new id other (option_map unlabelled (place_of old id)) place changes there) [
      | inl new ↦ (
          let w = was (place_of old id) place new.is in
          subst (λ p. P other p) w.is (without other w.before (each other w.before (sym (ap (place_of old) new.same) ∙ w.there))))
      | inr stays ↦ each other place stays.there
    ]

pub owned_unlabelled : (old new : List (ℕ × Place)) (ledgers : List Ledger) (id : ℕ) → AreOwned old ledgers → Unlabels old new id → AreOwned new ledgers
owned_unlabelled old new ledgers id owned changes =
    let P : ℕ → Place → Type 0 = λ other place. owner_in ledgers (slot_of place) ≡ Some other in
    holds_unlabelled P old new id changes owned (λ other place holds. holds)

pub kept_unlabelled : (honest : Bool) (kept : Slot → List ℕ) (keys : RandomState) (old new : List (ℕ × Place)) (id : ℕ) → AreKept honest kept keys old → Unlabels old new id → AreKept honest kept keys new
kept_unlabelled honest kept keys old new id are changes =
    let P : ℕ → Place → Type 0 = λ other place. (IsTrue honest → take place.len (kept (slot_of place)) ≡ bytes_at place) × IsSound keys place in
    holds_unlabelled P old new id changes are (λ other place holds. holds)
