-- The part of a value that GETRANGE replies.
use Rattle.std.proofs.Common.{◌≡◌, ◌≤◌, ◌<◌, ◌-◌, ◌⊎◌, inl, inr, ℕ, ℤ, pos, negsuc, zero, suc, true, false, List, [], length, take, drop, refl, sym, ap, ◌∙◌, arith, length-drop}
use Rattle.std.proofs.lemmas.Bool.{leb-true, leb-false, cases_Bool, cond-true, cond-false, cases_lt}
use Rattle.std.proofs.lemmas.List.{take_all, drop_all}
use Rattle.commands.specs.declared.range.Range.{Range}
use Rattle.commands.specs.Ranges.{place, AreInOrder, IsRange}
use Rattle.key_commands.specs.Reading.{are_in_order, part}

in_order : (first last : ℤ) → are_in_order first last ≡ true → AreInOrder first last
in_order (pos m) last e = tt
in_order (negsuc m) (pos n) e = tt
in_order (negsuc m) (negsuc n) e = leb-true n m e

not_in_order : (first last : ℤ) → are_in_order first last ≡ false → AreInOrder first last → ⊥
not_in_order (pos m) last e o = cc
not_in_order (negsuc m) (pos n) e o = cc
not_in_order (negsuc m) (negsuc n) e o = omega (arith, leb-false n m e)

-- a range with something in it begins at the first place
begins : (first last : ℤ) (len : ℕ) (r : Range) → IsRange first last len r → r.from < r.to → r.from ≡ place first len
begins first last len r h some =
    let i = h.inside r.from (omega arith) some in
    let w = h.whole (place first len) (omega (arith, h.within, i.1)) i.0 (omega arith) (omega (arith, i.1, i.2)) in
    omega (arith, w.0, i.1)

-- and ends behind the last place or at the end
ends : (first last : ℤ) (len : ℕ) (r : Range) → IsRange first last len r → r.from < r.to → (r.to ≡ suc (place last len)) ⊎ ((r.to ≡ len) × (len ≤ suc (place last len)))
ends first last len r h some =
    let i = h.inside r.from (omega arith) some in
    let l = h.inside (r.to - 1) (omega arith) (omega arith) in
    elim (cases_lt r.to len) [
      | inl less ↦ elim (cases_lt (place last len) r.to) [
        | inl below ↦ inl (omega (arith, below, l.2))
        | inr above ↦ absurd (omega (arith, (h.whole r.to less i.0 (omega (arith, i.1)) above).1))
      ]
      | inr all ↦ inr (omega (arith, all, h.within), omega (arith, all, h.within, l.2))
    ]

-- a range with nothing in it, where the places are in order: the first is behind the last, or behind all
empty : (first last : ℤ) (len : ℕ) (r : Range) → IsRange first last len r → r.to ≤ r.from → AreInOrder first last → (len ≤ place first len) ⊎ (place last len < place first len)
empty first last len r h none o =
    elim (cases_lt (place first len) len) [
      | inl less ↦ elim (cases_lt (place last len) (place first len)) [
        | inl below ↦ inr below
        | inr above ↦ absurd (omega (arith, (h.whole (place first len) less o (omega arith) above).0, (h.whole (place first len) less o (omega arith) above).1))
      ]
      | inr past ↦ inl past
    ]

taken_none : (n : ℕ) (l : List ℕ) → n ≡ 0 → take n l ≡ []
taken_none n l e = ap (λ k. take k l) e

dropped_none : (n : ℕ) (l : List ℕ) → l ≡ [] → take n l ≡ []
dropped_none zero l e = refl
dropped_none (suc n) l e = ap (take (suc n)) e

-- the part, where the places are in order
ordered_part : ℤ → ℤ → List ℕ → List ℕ
ordered_part first last bytes = take (suc (place last (length bytes)) - place first (length bytes)) (drop (place first (length bytes)) bytes)

some_part : (first last : ℤ) (bytes : List ℕ) (r : Range) → IsRange first last (length bytes) r → r.from < r.to → take (r.to - r.from) (drop r.from bytes) ≡ ordered_part first last bytes
unfolding ordered_part
some_part first last bytes r h some =
    let from : r.from ≡ place first (length bytes) = begins first last (length bytes) r h some in
    let left = length-drop r.from bytes in
    elim (ends first last (length bytes) r h some) [
      | inl e ↦ cc
      | inr e ↦
          let all : take (r.to - r.from) (drop r.from bytes) ≡ drop r.from bytes = take_all (r.to - r.from) (drop r.from bytes) (omega (arith, left, e.0)) in
          let more : take (suc (place last (length bytes)) - r.from) (drop r.from bytes) ≡ drop r.from bytes = take_all (suc (place last (length bytes)) - r.from) (drop r.from bytes) (omega (arith, left, e.1)) in
          cc
    ]

none_part : (first last : ℤ) (bytes : List ℕ) (r : Range) → IsRange first last (length bytes) r → r.to ≤ r.from → AreInOrder first last → take (r.to - r.from) (drop r.from bytes) ≡ ordered_part first last bytes
unfolding ordered_part
none_part first last bytes r h none o =
    let left : take (r.to - r.from) (drop r.from bytes) ≡ [] = taken_none (r.to - r.from) (drop r.from bytes) (omega arith) in
    elim (empty first last (length bytes) r h none o) [
      | inl past ↦ left ∙ sym (dropped_none (suc (place last (length bytes)) - place first (length bytes)) (drop (place first (length bytes)) bytes) (drop_all (place first (length bytes)) bytes past))
      | inr behind ↦ left ∙ sym (taken_none (suc (place last (length bytes)) - place first (length bytes)) (drop (place first (length bytes)) bytes) (omega arith))
    ]

in_order_part : (first last : ℤ) (bytes : List ℕ) (r : Range) → IsRange first last (length bytes) r → AreInOrder first last → take (r.to - r.from) (drop r.from bytes) ≡ ordered_part first last bytes
in_order_part first last bytes r h o =
    elim (cases_lt r.from r.to) [ inl some ↦ some_part first last bytes r h some | inr none ↦ none_part first last bytes r h none o ]

no_part : (first last : ℤ) (bytes : List ℕ) (r : Range) → IsRange first last (length bytes) r → are_in_order first last ≡ false → take (r.to - r.from) (drop r.from bytes) ≡ []
no_part first last bytes r h crossed =
    elim (cases_lt r.from r.to) [
      | inl some ↦ absurd (not_in_order first last crossed (h.inside r.from (omega arith) some).0)
      | inr none ↦ taken_none (r.to - r.from) (drop r.from bytes) (omega arith)
    ]

-- a range's bytes are the part
pub part_of_range : (first last : ℤ) (bytes : List ℕ) (r : Range) → IsRange first last (length bytes) r → take (r.to - r.from) (drop r.from bytes) ≡ part first last bytes
unfolding ordered_part
part_of_range first last bytes r h =
    elim (cases_Bool (are_in_order first last)) [
      | inl straight ↦ in_order_part first last bytes r h (in_order first last straight) ∙ sym (cond-true (are_in_order first last) (ordered_part first last bytes) [] straight)
      | inr crossed ↦ no_part first last bytes r h crossed ∙ sym (cond-false (are_in_order first last) (ordered_part first last bytes) [] crossed)
    ]
