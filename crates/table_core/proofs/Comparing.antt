-- Tests of contents, one pair after another.
use Rattle.std.proofs.Common.{◌≡◌, ℕ, ◌+◌, ◌<◌, ◌≤◌, Bool, true, List, Option, length, take, get_or, ap, sym, ◌∙◌, arith, IsTrue, ◌↔◌}
use Rattle.std.proofs.lemmas.Map.Lookups.{exact_bytes}
use Rattle.std.proofs.lemmas.Cmp.{tied_itself}
use Rattle.std.specs.Ordering.{is_eq}
use Rattle.std.specs.Cmp.Lexicographic.{slice_cmp}
use Rattle.std.specs.Ordering.{nat_cmp}
use Rattle.std.proofs.lemmas.List.{take_all, take_more_same, get_or_default}
use Rattle.std.specs.declared.cmp.Ordering.{Ordering}
use Rattle.std.specs.declared.cmp.Ordering.TheVariants.{Less, Equal, Greater}
use Rattle.far_object.specs.Encodings.{FarLaws}
use Rattle.far_object.proofs.Distinct.{same_value}
use Rattle.far_object.proofs.Rising.{total}

pub compared_same : {X : Type 0} (enc : X → List ℕ) (dec : List ℕ → Option X) (admits : X → Type 0) → FarLaws enc dec admits → (x y : X) → admits x → admits y
    → (o : Ordering) → o ≡ slice_cmp nat_cmp (enc x) (enc y) → is_eq o ≡ true → x ≡ y
compared_same enc dec admits laws x y a b Less is e = cc
compared_same enc dec admits laws x y a b Equal is e = same_value enc dec admits laws x y a b (exact_bytes (enc x) (enc y) (sym is))
compared_same enc dec admits laws x y a b Greater is e = cc

-- an answer of a comparison tells whether two values are the same
pub same_is : {X : Type 0} (enc : X → List ℕ) (dec : List ℕ → Option X) (admits : X → Type 0) → FarLaws enc dec admits → (x y : X) → admits x → admits y
    → (o : Ordering) (r : Bool) → o ≡ slice_cmp nat_cmp (enc x) (enc y) → r ≡ is_eq o → IsTrue r ↔ (x ≡ y)
same_is {X = X} enc dec admits laws x y a b o r is answer =
    (λ t. compared_same enc dec admits laws x y a b o is (sym answer ∙ t), λ same. answer ∙ ap is_eq (is ∙ (ap (λ (z : X). slice_cmp nat_cmp (enc z) (enc y)) same ∙ equal_is y)))
  where
    equal_is : (z : X) → slice_cmp nat_cmp (enc z) (enc z) ≡ Equal
    equal_is z = tied_itself (total enc) z

-- one equation for another
pub same_test : {X : Type 0} (r : Bool) (x y z : X) → y ≡ z → IsTrue r ↔ (x ≡ y) → IsTrue r ↔ (x ≡ z)
same_test r x y z e h = (λ t. h.0 t ∙ e, λ q. h.1 (q ∙ sym e))

-- ---- lists of pairs, one pair after another

module _ {K V : Type 0} where
  pair_same : (a b : K × V) → a.0 ≡ b.0 → a.1 ≡ b.1 → a ≡ b
  pair_same a b p q = ap (λ (k : K). (k, a.1)) p ∙ ap (λ (v : V). (b.0, v)) q

  pub same_more : (xs ys : List (K × V)) (i : ℕ) (a b c : K × V) → i < length xs → length xs ≡ length ys → a ≡ get_or xs i a
      → a.0 ≡ (get_or ys i b).0 → a.1 ≡ (get_or ys i c).1 → take i xs ≡ take i ys → take (i + 1) xs ≡ take (i + 1) ys
  same_more xs ys i a b c h l at p q so =
      let k : i < length ys = omega arith in
      let one = get_or_default ys i b a k in
      let other = get_or_default ys i c a k in
      take_more_same xs ys i a h k so (sym at ∙ pair_same a (get_or ys i a) (p ∙ ap (λ (z : K × V). z.0) one) (q ∙ ap (λ (z : K × V). z.1) other))

  pub same_all : (xs ys : List (K × V)) (i : ℕ) → length xs ≤ i → length xs ≡ length ys → take i xs ≡ take i ys → xs ≡ ys
  same_all xs ys i h l so = let k : length ys ≤ i = omega arith in sym (take_all i xs h) ∙ (so ∙ take_all i ys k)
