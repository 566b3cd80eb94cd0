-- Seats that are made one after another.
use Rattle.std.proofs.Common.{◌≡◌, ℕ, zero, suc, ◌+◌, ◌==◌, true, false, List, [], ◌∷◌, ◌++◌, length, All, ap, sym, ◌∙◌, subst, ⊎_elim, arith}
use Rattle.std.proofs.lemmas.List.Elements.{All-append}
use Rattle.std.proofs.lemmas.Bool.Decides.{eqb_tells}
use Rattle.swapper.specs.declared.rule.SeatView.{SeatView}
use Rattle.swapper.specs.Seats.{seat_view, IsNew}

pub all_none : {A : Type 0} (P : A → Type 0) (xs : List A) → xs ≡ [] → All P xs
all_none P xs e k d h = absurd (let n = ap length e in omega (arith, n, h))

all_one : {A : Type 0} (P : A → Type 0) (x : A) → P x → All P (x ∷ [])
all_one P x p zero d h = p
all_one P x p (suc k) d h = absurd (omega arith)

pub all_push : {A : Type 0} (P : A → Type 0) (xs ys : List A) (x : A) → ys ≡ xs ++ x ∷ [] → All P xs → P x → All P ys
all_push P xs ys x e a p = subst (All P) (sym e) (All-append P xs (x ∷ []) a (all_one P x p))

module _ {T : Type 0} where
  -- the seat that takes makes another one
  pub seated_taker : (v w : SeatView T) (n : ℕ) → v ≡ seat_view [] 0 (n == 0) true → w ≡ seat_view v.handed v.taken false v.takes → w ≡ seat_view [] 0 (n + 1 == 0) true
  seated_taker v w n is e =
      let some : (n + 1 == 0) ≡ false = ⊎_elim (λ x. absurd (omega (arith, x.1))) (λ x. x.0) (eqb_tells (n + 1) 0) in
      e ∙ (ap (λ (u : SeatView T). seat_view u.handed u.taken false u.takes) is ∙ ap (λ b. seat_view [] 0 b true) (sym some))

  pub seated_other : (v r : SeatView T) (n : ℕ) → v ≡ seat_view [] 0 (n == 0) true → r ≡ seat_view v.handed v.taken false false → IsNew r
  seated_other v r n is e = e ∙ ap (λ (u : SeatView T). seat_view u.handed u.taken false false) is
