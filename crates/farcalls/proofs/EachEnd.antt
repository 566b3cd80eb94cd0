-- What holds of all ends, found one after another.
use Rattle.std.proofs.Common.{◌≡◌, ◌<◌, ◌≤◌, ◌+◌, ℕ, zero, suc, List, [], ◌∷◌, length, take, get_or, subst, sym, arith}
use Rattle.std.proofs.Math.Seq.{take-length}

up : {X : Type 0} (P : X → Type 0) (all : List X) (n : ℕ) (e : X) → n < length all → P (get_or all n e) → ((k : ℕ) (d : X) → k < length (take n all) → P (get_or (take n all) k d))
    → (k : ℕ) (d : X) → k < length (take (suc n) all) → P (get_or (take (suc n) all) k d)
up P [] n e within last before k d h = absurd (omega (arith, within))
up P (x ∷ xs) zero e within last before zero d h = last
up P (x ∷ xs) zero e within last before (suc k) d h = absurd (omega (arith, h))
up P (x ∷ xs) (suc n) e within last before zero d h = before 0 d (omega arith)
up P (x ∷ xs) (suc n) e within last before (suc k) d h =
    let less : n < length xs = omega (arith, within) in
    let here : k < length (take (suc n) xs) = omega (arith, h) in
    up P xs n e less last (λ j y there. before (suc j) y (omega (arith, there))) k d here

-- it holds of one more
pub one_more : {X : Type 0} (P : X → Type 0) (all : List X) (n : ℕ) (e : X) → n < length all → P (get_or all n e) → ((k : ℕ) (d : X) → k < length (take n all) → P (get_or (take n all) k d))
    → (k : ℕ) (d : X) → k < length (take (n + 1) all) → P (get_or (take (n + 1) all) k d)
one_more P all n e within last before =
    let next : n + 1 ≡ suc n = omega arith in
    subst (λ (m : ℕ). (k : ℕ) (d : _) → k < length (take m all) → P (get_or (take m all) k d)) (sym next) (up P all n e within last before)

-- it holds of all
pub all_of : {X : Type 0} (P : X → Type 0) (all : List X) (n : ℕ) → length all ≤ n → n ≤ length all → ((k : ℕ) (d : X) → k < length (take n all) → P (get_or (take n all) k d))
    → (k : ℕ) (d : X) → k < length all → P (get_or all k d)
all_of P all n most least before =
    let is : n ≡ length all = omega (arith, most, least) in
    let whole = subst (λ (m : ℕ). (k : ℕ) (d : _) → k < length (take m all) → P (get_or (take m all) k d)) is before in
    subst (λ (l : List _). (k : ℕ) (d : _) → k < length l → P (get_or l k d)) (take-length all) whole
