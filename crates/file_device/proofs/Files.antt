-- What the slots of a disk have in its files.
use Rattle.std.proofs.Common.{◌≡◌, ◌≢◌, ℕ, zero, suc, ◌+◌, ◌*◌, ◌≤◌, ◌<◌, ◌⊎◌, inl, inr, List, [], ◌∷◌, length, map, take, Option, Some, slice_get, slice_set, slice_index_or, arith, ⊎_elim, refl, sym, ap, ◌∙◌, subst}
use Rattle.std.specs.List.{range_with_len}
use Rattle.std.proofs.Math.Nat.{add-mul, one-mul}
use Rattle.std.proofs.lemmas.Bool.Decides.{eqb_tells}
use Rattle.std.proofs.lemmas.Option.{slice_get-get_or}
use Rattle.std.proofs.lemmas.List.FromFn.{take-map-range_with_len}
use Rattle.file_device.specs.declared.slot.Slot.{Slot}
use Rattle.file_device.specs.Files.{bytes_from, byte_of, byte_in, slot_bytes, IsOutside}
use Rattle.file_device.specs.Offsets.{size_of, IsIn, AreApart}

-- bytes that are the same one by one
same_bytes : (f g : ℕ → ℕ) (at count : ℕ) → ((place : ℕ) → at ≤ place → place < at + count → f place ≡ g place) → bytes_from f at count ≡ bytes_from g at count
same_bytes f g at zero same = refl
same_bytes f g at (suc n) same =
    let here : f at ≡ g at = same at (omega arith) (omega arith) in
    let behind = same_bytes f g (at + 1) n (λ place low high. same place (omega arith) (omega arith)) in
    ap (λ b. b ∷ map f (range_with_len (at + 1) n)) here ∙ ap (λ l. g at ∷ l) behind

set_there : {X : Type 0} (xs : List X) (i : ℕ) (x : X) → i < length xs → slice_get (slice_set xs i x) i ≡ Some x
set_there [] i x within = absurd (omega arith)
set_there (y ∷ xs) zero x within = refl
set_there (y ∷ xs) (suc i) x within = set_there xs i x (omega arith)

set_elsewhere : {X : Type 0} (xs : List X) (i j : ℕ) (x : X) → j ≢ i → slice_get (slice_set xs i x) j ≡ slice_get xs j
set_elsewhere [] i j x apart = refl
set_elsewhere (y ∷ xs) zero zero x apart = absurd (apart refl)
set_elsewhere (y ∷ xs) zero (suc j) x apart = refl
set_elsewhere (y ∷ xs) (suc i) zero x apart = refl
set_elsewhere (y ∷ xs) (suc i) (suc j) x apart = set_elsewhere xs i j x (λ same. apart (ap suc same))

same_slot : (one other : Slot) → one.class ≡ other.class → one.number ≡ other.number → one ≡ other
same_slot one other class number =
    ap (λ (c : ℕ). record { class = c; number = one.number }) class ∙ ap (λ (n : ℕ). record { class = other.class; number = n }) number

lt_or_le : (a b : ℕ) → (a < b) ⊎ (b ≤ a)
lt_or_le zero zero = inr (omega arith)
lt_or_le zero (suc b) = inl (omega arith)
lt_or_le (suc a) zero = inr (omega arith)
lt_or_le (suc a) (suc b) = ⊎_elim (λ lt. inl (omega (arith, lt))) (λ le. inr (omega (arith, le))) (lt_or_le a b)

-- how far a slot reaches
reach : (number size : ℕ) → (number + 1) * size ≡ number * size + size
reach number size = add-mul number 1 size ∙ ap (λ s. number * size + s) (one-mul size)

-- what is not written is outside of what is
not_in : (slot other : Slot) (place : ℕ) → other.class ≡ slot.class → AreApart slot other → other ≢ slot → other.number * size_of other ≤ place → place < other.number * size_of other + size_of other → slot.number * size_of slot ≤ place → place < slot.number * size_of slot + size_of slot → ⊥
not_in slot other place alike apart differs low high from to =
    let mine : IsIn slot place = (from, subst (λ e. place < e) (sym (reach slot.number (size_of slot))) to) in
    let its : IsIn other place = (low, subst (λ e. place < e) (sym (reach other.number (size_of other))) high) in
    differs (same_slot other slot alike (sym (apart (sym alike) place mine its)))

outside : (slot other : Slot) (at len place : ℕ) → at ≡ slot.number * size_of slot → len ≤ size_of slot → other.class ≡ slot.class → AreApart slot other → other ≢ slot → other.number * size_of other ≤ place → place < other.number * size_of other + size_of other → IsOutside at len place
outside slot other at len place offset fits alike apart differs low high = λ begins.
    elim (lt_or_le place (at + len)) [
      | inl before ↦ absurd (not_in slot other place alike apart differs low high (subst (λ a. a ≤ place) offset begins) (omega (arith, before, offset, fits)))
      | inr after ↦ after
    ]

module _ {F : Type 0} (byte : F → ℕ → ℕ) where
  -- what is written to the front of a slot is what the slot has there
  pub written : (files : List (Option F)) (new : Option F) (slot : Slot) (bytes : List ℕ) (at : ℕ) → slot.class < length files → length bytes ≤ size_of slot → at ≡ slot.number * size_of slot → bytes_from (byte_of byte new) at (length bytes) ≡ bytes → take (length bytes) (slot_bytes byte (slice_set files slot.class new) slot) ≡ bytes
  written files new slot bytes at within fits offset is =
      let P : Option (Option F) → Type 0 = λ o. take (length bytes) (bytes_from (byte_in byte o) (slot.number * size_of slot) (size_of slot)) ≡ bytes in
      let Q : ℕ → Type 0 = λ a. bytes_from (byte_of byte new) a (length bytes) ≡ bytes in
      let whole = take-map-range_with_len (byte_of byte new) (slot.number * size_of slot) (size_of slot) (length bytes) fits in
      subst P (sym (set_there files slot.class new within)) (whole ∙ subst Q offset is)

  -- a read of the front of a slot
  pub read : (files : List (Option F)) (file : F) (slot : Slot) (len at : ℕ) → slice_get files slot.class ≡ Some (Some file) → len ≤ size_of slot → at ≡ slot.number * size_of slot → bytes_from (byte file) at len ≡ take len (slot_bytes byte files slot)
  read files file slot len at there fits offset =
      let P : Option (Option F) → Type 0 = λ o. bytes_from (byte file) (slot.number * size_of slot) len ≡ take len (bytes_from (byte_in byte o) (slot.number * size_of slot) (size_of slot)) in
      let whole = take-map-range_with_len (byte file) (slot.number * size_of slot) (size_of slot) len fits in
      ap (λ a. bytes_from (byte file) a len) offset ∙ subst P (sym there) (sym whole)

  -- all other slots of the class have what they had
  others_here : (files : List (Option F)) (d new : Option F) (slot other : Slot) (at len : ℕ) → slot.class < length files → len ≤ size_of slot → at ≡ slot.number * size_of slot → AreApart slot other → ((place : ℕ) → IsOutside at len place → byte_of byte new place ≡ byte_of byte (slice_index_or files slot.class d) place) → other ≢ slot → other.class ≡ slot.class → slot_bytes byte (slice_set files slot.class new) other ≡ slot_bytes byte files other
  others_here files d new slot other at len within fits offset apart same differs alike =
      let from = λ (o : Option (Option F)). bytes_from (byte_in byte o) (other.number * size_of other) (size_of other) in
      let now : slice_get (slice_set files slot.class new) other.class ≡ Some new = subst (λ c. slice_get (slice_set files slot.class new) c ≡ Some new) (sym alike) (set_there files slot.class new within) in
      let was = slice_index_or files slot.class d in
      let before : slice_get files other.class ≡ Some was = subst (λ c. slice_get files c ≡ Some was) (sym alike) (slice_get-get_or files slot.class d within) in
      let each = same_bytes (byte_of byte new) (byte_of byte was) (other.number * size_of other) (size_of other) (λ place low high. same place (outside slot other at len place offset fits alike apart differs low high)) in
      ap from now ∙ (each ∙ ap from (sym before))

  -- all other slots have what they had
  pub others : (files : List (Option F)) (d new : Option F) (slot other : Slot) (at len : ℕ) → slot.class < length files → len ≤ size_of slot → at ≡ slot.number * size_of slot → AreApart slot other → ((place : ℕ) → IsOutside at len place → byte_of byte new place ≡ byte_of byte (slice_index_or files slot.class d) place) → other ≢ slot → slot_bytes byte (slice_set files slot.class new) other ≡ slot_bytes byte files other
  others files d new slot other at len within fits offset apart same differs =
      elim (eqb_tells other.class slot.class) [
        | inl e ↦ others_here files d new slot other at len within fits offset apart same differs e.1
        | inr e ↦ ap (λ (o : Option (Option F)). bytes_from (byte_in byte o) (other.number * size_of other) (size_of other)) (set_elsewhere files slot.class other.class new e.1)
      ]
