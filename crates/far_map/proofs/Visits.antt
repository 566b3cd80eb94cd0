-- Pairs that were read and handed over, one bucket after the other.
use Rattle.std.proofs.Common.{◌≡◌, ℕ, suc, ◌+◌, List, [], ◌∷◌, ◌++◌, refl, sym, subst, arith}
use Rattle.std.specs.List.{FoldsTo}
use Rattle.table_core.specs.declared.limits.Limits.{Limits}
use Rattle.version_words.specs.Views.{Goes}
use Rattle.far_map.specs.Views.{View, Pairs}
use Rattle.far_map.specs.Visits.{AreOfBucket, AreRead}

module _ {P A : Type 0} (R : P → A → P → Type 0) where
  pub folds_on : (p : P) (xs : List A) (q : P) (ys : List A) (r : P) → FoldsTo R p xs q → FoldsTo R q ys r → FoldsTo R p (xs ++ ys) r
  folds_on p [] q ys r h k = subst (λ (s : P). FoldsTo R s ys r) (sym h) k
  folds_on p (x ∷ xs) q ys r h k = (h.0, h.1, folds_on h.0 xs q ys r h.2 k)

  pub folds_more : (p : P) (xs : List A) (q : P) (y : A) (r : P) → FoldsTo R p xs q → R q y r → FoldsTo R p (xs ++ y ∷ []) r
  folds_more p xs q y r h step = folds_on p xs q (y ∷ []) r h (r, step, refl)

-- one bucket more was read
pub read_more : {V : Type 0} (ev : V → List ℕ) (l : Limits) (b : ℕ) (old mid new : View V) (before here : Pairs V) → AreRead ev l b old mid before → Goes mid new → AreOfBucket ev l b new here → AreRead ev l (b + 1) old new (before ++ here)
read_more ev l b old mid new before here h goes are =
    let next : suc b ≡ b + 1 = omega arith in
    subst (λ (n : ℕ). AreRead ev l n old new (before ++ here)) next (mid, before, here, h, goes, are, refl)
