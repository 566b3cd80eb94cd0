-- A word of marks that changes in one bit.
use Rattle.std.proofs.Common.{◌≡◌, ◌≢◌, ℕ, ◌+◌, ◌*◌, ◌<◌, ◌≤◌, ◌/◌, ◌%◌, ◌==◌, ◌^◌, Bool, true, false, List, length, set, get_or, replicate, ap, sym, ◌∙◌, subst, ⊎_elim, arith}
use Rattle.std.specs.Int.{bit_at}
use Rattle.std.proofs.Common.{bit_and, bit_or, w64, ◌-◌}
use Rattle.std.proofs.lemmas.List.{get_or-set_same, get_or-set_other, length-set, length-replicate, get_or-replicate}
use Rattle.std.proofs.lemmas.List.FromFn.{fill_by_all, length-map-range_with_len, get_or-map-range_with_len}
use Rattle.std.proofs.lemmas.Nat.Bits.{bit_at-zero, bit_at_set_same, bit_at_set_other, bit_at_clear_same, bit_at_clear_other, shr_and_one}
use Rattle.std.proofs.lemmas.Bool.Decides.{eqb_tells}
use Rattle.swapper.specs.Marks.{has_mark, marks_of}

pub marks_length : (words : List ℕ) (n : ℕ) → length (marks_of words n) ≡ n
marks_length words n = length-map-range_with_len (λ k. has_mark words k) 0 n

pub mark_is : (words : List ℕ) (n k : ℕ) → k < n → get_or (marks_of words n) k false ≡ has_mark words k
mark_is words n k lt = get_or-map-range_with_len (λ j. has_mark words j) 0 n k k false lt (omega arith)

-- words that differ in the bit of one number have the same other marks
pub marks_changed : (words new : List ℕ) (n f : ℕ) (b : Bool) → f < n → has_mark new f ≡ b → ((k : ℕ) → k ≢ f → has_mark new k ≡ has_mark words k) → marks_of new n ≡ set (marks_of words n) f b
marks_changed words new n f b lt here others =
    sym (fill_by_all (λ k. has_mark new k) (set (marks_of words n) f b) n false (length-set (marks_of words n) f b ∙ marks_length words n) each)
  where
    each : (k : ℕ) → k < n → get_or (set (marks_of words n) f b) k false ≡ has_mark new k
    each k l = ⊎_elim
        (λ e. subst (λ (j : ℕ). get_or (set (marks_of words n) f b) j false ≡ has_mark new j) (sym e.1)
        (get_or-set_same (marks_of words n) f b false (omega (arith, lt, marks_length words n)) ∙ sym here))
        (λ e. get_or-set_other (marks_of words n) f k b false e.1 ∙ (mark_is words n k l ∙ sym (others k e.1)))
        (eqb_tells k f)

same_place : (j k : ℕ) → j / 64 ≡ k / 64 → j % 64 ≡ k % 64 → j ≡ k
same_place j k e h = omega (arith, e, h)

-- one bit of the number's word was written
pub word_changed : (words : List ℕ) (n f w : ℕ) (b : Bool) → f < n → f / 64 < length words → (bit_at w (f % 64) == 1) ≡ b
    → ((i : ℕ) → i < 64 → i ≢ f % 64 → bit_at w i ≡ bit_at (get_or words (f / 64) 0) i) → marks_of (set words (f / 64) w) n ≡ set (marks_of words n) f b
word_changed words n f w b lt within here others = marks_changed words (set words (f / 64) w) n f b lt
    (ap (λ (x : ℕ). bit_at x (f % 64) == 1) (get_or-set_same words (f / 64) w 0 within) ∙ here)
    (λ k o. ⊎_elim
    (λ e.
    let word : get_or (set words (f / 64) w) (k / 64) 0 ≡ w = ap (λ (i : ℕ). get_or (set words (f / 64) w) i 0) e.1 ∙ get_or-set_same words (f / 64) w 0 within in
    let bit : bit_at w (k % 64) ≡ bit_at (get_or words (f / 64) 0) (k % 64) = others (k % 64) (omega arith) (λ same. o (same_place k f e.1 same)) in
    ap (λ (x : ℕ). bit_at x (k % 64) == 1) word ∙ (ap (λ (x : ℕ). x == 1) bit ∙ ap (λ (i : ℕ). bit_at (get_or words i 0) (k % 64) == 1) (sym e.1)))
    (λ e. ap (λ (x : ℕ). bit_at x (k % 64) == 1) (get_or-set_other words (f / 64) (k / 64) w 0 e.1))
    (eqb_tells (k / 64) (f / 64)))

pub word_within : (len n f : ℕ) → n ≤ 64 * len → f < n → f / 64 < len
word_within len n f few lt = omega (arith, few, lt)

module _ (words : List ℕ) (n f w : ℕ) (few : n ≤ 64 * length words) (lt : f < n) (word : w ≡ get_or words (f / 64) 0) where
  pub set_marks : marks_of (set words (f / 64) (bit_or w (1 * 2 ^ (f % 64) % 2 ^ 64))) n ≡ set (marks_of words n) f true
  set_marks = word_changed words n f (bit_or w (1 * 2 ^ (f % 64) % 2 ^ 64)) true lt (word_within (length words) n f few lt)
      (ap (λ (x : ℕ). x == 1) (bit_at_set_same w64 w (f % 64) (omega arith)))
      (λ i within other. bit_at_set_other w64 w (f % 64) (omega arith) i other ∙ ap (λ (x : ℕ). bit_at x i) word)

  pub clear_marks : marks_of (set words (f / 64) (bit_and w (2 ^ 64 - 1 - 1 * 2 ^ (f % 64) % 2 ^ 64))) n ≡ set (marks_of words n) f false
  clear_marks = word_changed words n f (bit_and w (2 ^ 64 - 1 - 1 * 2 ^ (f % 64) % 2 ^ 64)) false lt (word_within (length words) n f few lt)
      (ap (λ (x : ℕ). x == 1) (bit_at_clear_same w64 w (f % 64) (omega arith)))
      (λ i within other. bit_at_clear_other w64 w (f % 64) (omega arith) i within other ∙ ap (λ (x : ℕ). bit_at x i) word)

  pub mark_tells : (bit_and (w / 2 ^ (f % 64)) 1 == 1) ≡ get_or (marks_of words n) f false
  mark_tells = ap (λ (x : ℕ). x == 1) (shr_and_one w (f % 64)) ∙ (ap (λ (x : ℕ). bit_at x (f % 64) == 1) word ∙ sym (mark_is words n f lt))

-- words of 0 have no marks
pub no_marks : (words : List ℕ) (n : ℕ) → words ≡ replicate (n / 64 + 1) 0 → marks_of words n ≡ replicate n false
no_marks words n e = sym (fill_by_all (λ k. has_mark words k) (replicate n false) n false (length-replicate n false) each)
  where
    each : (k : ℕ) → k < n → get_or (replicate n false) k false ≡ has_mark words k
    each k l =
        let zero : get_or words (k / 64) 0 ≡ 0 = ap (λ (ws : List ℕ). get_or ws (k / 64) 0) e ∙ get_or-replicate (n / 64 + 1) (k / 64) 0 0 (omega (arith, l)) in
        get_or-replicate n k false false l ∙ sym (ap (λ (x : ℕ). bit_at x (k % 64) == 1) zero ∙ ap (λ (x : ℕ). x == 1) (bit_at-zero (k % 64)))
