-- The order of two keys by what their first bytes spell.
use Rattle.std.proofs.Common.{◌≡◌, ℕ, zero, suc, ◌+◌, ◌*◌, ◌<◌, ◌≤◌, List, [], ◌∷◌, ◌++◌, length, take, drop, replicate, get_or, refl, sym, ◌∙◌, arith}
use Rattle.std.specs.declared.cmp.Ordering.{Ordering}
use Rattle.std.specs.declared.cmp.Ordering.TheVariants.{Less, Equal, Greater}
use Rattle.std.specs.Ordering.{nat_cmp, ordering_then}
use Rattle.std.specs.Cmp.Lexicographic.{slice_cmp}
use Rattle.std.proofs.lemmas.Bool.Decides.{nat_tests}
use Rattle.far_object.specs.Encodings.{AreBytes}
use Rattle.far_pairs.specs.Heads.{spelled}

-- the bytes of two lists, with zeros behind them, are the same up to this place
abbrev Alike : List ℕ → List ℕ → ℕ → Type 0
Alike xs ys n = (i : ℕ) → i < n → get_or xs i 0 ≡ get_or ys i 0

-- what holds at each place before the last and at the last holds at each
at_each : {P : ℕ → Type 0} → (n i : ℕ) → i < suc n → ((k : ℕ) → k < n → P k) → P n → P i
at_each zero zero h before at = at
at_each zero (suc i) h before at = absurd (omega (arith, h))
at_each (suc n) zero h before at = before 0 (omega arith)
at_each {P} (suc n) (suc i) h before at = at_each n i (omega (arith, h)) (λ k l. before (suc k) (omega (arith, l))) at

alike : (n : ℕ) (xs ys : List ℕ) → AreBytes xs → AreBytes ys → spelled xs n ≡ spelled ys n → Alike xs ys n
alike zero xs ys p q e i h = absurd (omega (arith, h))
alike (suc n) xs ys p q e i h =
    let a = p n in
    let b = q n in
    at_each n i h (alike n xs ys p q (omega (arith, a, b, e))) (omega (arith, a, b, e))

less : (n : ℕ) → (0 ≡ n → ⊥) → Less ≡ nat_cmp 0 n
less n h = grind (arith, nat_tests)

greater : (n : ℕ) → (n ≡ 0 → ⊥) → Greater ≡ nat_cmp n 0
greater n h = grind (arith, nat_tests)

differ_decide : (x y : ℕ) (o : Ordering) → (x ≡ y → ⊥) → ordering_then (nat_cmp x y) o ≡ nat_cmp x y
differ_decide x y o h = grind (arith, nat_tests)

same_leave : (x y : ℕ) (o : Ordering) → x ≡ y → ordering_then (nat_cmp x y) o ≡ o
same_leave x y o h = grind (arith, nat_tests)

-- where they are the same before it, the first place that differs decides
first_decides : (n : ℕ) (xs ys : List ℕ) → Alike xs ys n → (get_or xs n 0 ≡ get_or ys n 0 → ⊥) → slice_cmp nat_cmp xs ys ≡ nat_cmp (get_or xs n 0) (get_or ys n 0)
first_decides zero [] [] same h = absurd (h refl)
first_decides zero [] (y ∷ ys) same h = less y h
first_decides zero (x ∷ xs) [] same h = greater x h
first_decides zero (x ∷ xs) (y ∷ ys) same h = differ_decide x y (slice_cmp nat_cmp xs ys) h
first_decides (suc n) [] [] same h = absurd (h refl)
first_decides (suc n) [] (y ∷ ys) same h = less (get_or ys n 0) h
first_decides (suc n) (x ∷ xs) [] same h = greater (get_or xs n 0) h
first_decides (suc n) (x ∷ xs) (y ∷ ys) same h =
    same_leave x y (slice_cmp nat_cmp xs ys) (same 0 (omega arith)) ∙ first_decides n xs ys (λ i k. same (suc i) (omega (arith, k))) h

joined : (a b x y : ℕ) → x < 256 → y < 256 → (a ≡ b → ⊥) → nat_cmp (a * 256 + x) (b * 256 + y) ≡ nat_cmp a b
joined a b x y h k n = grind (arith, nat_tests)

last : (a b x y : ℕ) → a ≡ b → nat_cmp (a * 256 + x) (b * 256 + y) ≡ nat_cmp x y
last a b x y e = grind (arith, nat_tests)

less_differ : (a b : ℕ) → nat_cmp a b ≡ Less → a ≡ b → ⊥
less_differ a b e s = grind (arith, nat_tests)

greater_differ : (a b : ℕ) → nat_cmp a b ≡ Greater → a ≡ b → ⊥
greater_differ a b e s = grind (arith, nat_tests)

equal_same : (a b : ℕ) → nat_cmp a b ≡ Equal → a ≡ b
equal_same a b e = grind (arith, nat_tests)

-- equal numbers compare so
pub equals : (a b : ℕ) → a ≡ b → nat_cmp a b ≡ Equal
equals a b s = grind (arith, nat_tests)

-- where the first bytes spell different numbers, these decide
pub heads_decide : (n : ℕ) (xs ys : List ℕ) → AreBytes xs → AreBytes ys → (spelled xs n ≡ spelled ys n → ⊥) → nat_cmp (spelled xs n) (spelled ys n) ≡ slice_cmp nat_cmp xs ys
heads_decide zero xs ys p q h = absurd (h refl)
heads_decide (suc n) xs ys p q h = go (λ d. heads_decide n xs ys p q d) (nat_cmp (spelled xs n) (spelled ys n)) refl
  where
    go : ((spelled xs n ≡ spelled ys n → ⊥) → nat_cmp (spelled xs n) (spelled ys n) ≡ slice_cmp nat_cmp xs ys) → (r : Ordering) → nat_cmp (spelled xs n) (spelled ys n) ≡ r → nat_cmp (spelled xs (suc n)) (spelled ys (suc n)) ≡ slice_cmp nat_cmp xs ys
    go before Less e =
        let d : spelled xs n ≡ spelled ys n → ⊥ = less_differ (spelled xs n) (spelled ys n) e in
        joined (spelled xs n) (spelled ys n) (get_or xs n 0) (get_or ys n 0) (p n) (q n) d ∙ before d
    go before Greater e =
        let d : spelled xs n ≡ spelled ys n → ⊥ = greater_differ (spelled xs n) (spelled ys n) e in
        joined (spelled xs n) (spelled ys n) (get_or xs n 0) (get_or ys n 0) (p n) (q n) d ∙ before d
    go before Equal e =
        let s = equal_same (spelled xs n) (spelled ys n) e in
        let d : get_or xs n 0 ≡ get_or ys n 0 → ⊥ = λ k. h (omega (arith, s, k)) in
        last (spelled xs n) (spelled ys n) (get_or xs n 0) (get_or ys n 0) s ∙ sym (first_decides n xs ys (alike n xs ys p q s) d)

zeros : (n i : ℕ) → get_or {A = ℕ} (replicate n 0) i 0 ≡ 0
zeros zero i = refl
zeros (suc n) zero = refl
zeros (suc n) (suc i) = zeros n i

-- the first bytes, and zeros behind them where they are fewer than n
pub zeros_behind : (bytes : List ℕ) (count n i : ℕ) → count ≤ length bytes → count ≤ n → (count < n → length bytes ≤ count) → i < n → get_or {A = ℕ} (take count bytes ++ drop count (replicate n 0)) i 0 ≡ get_or bytes i 0
zeros_behind [] zero n i le few all h = zeros n i
zeros_behind (b ∷ bytes) zero n i le few all h = absurd (let a = all (omega (arith, h)) in omega (arith, a))
zeros_behind [] (suc count) n i le few all h = absurd (omega (arith, le))
zeros_behind (b ∷ bytes) (suc count) zero i le few all h = absurd (omega (arith, h))
zeros_behind (b ∷ bytes) (suc count) (suc n) zero le few all h = refl
zeros_behind (b ∷ bytes) (suc count) (suc n) (suc i) le few all h =
    zeros_behind bytes count n i (omega (arith, le)) (omega (arith, few)) (λ k. let a = all (omega (arith, k)) in omega (arith, a)) (omega (arith, h))
