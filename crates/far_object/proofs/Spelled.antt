-- A comparison of two lists of bytes by the numbers that their fronts spell, the highest byte first.
use Rattle.std.proofs.Common.{◌≡◌, ℕ, zero, suc, ◌+◌, ◌*◌, ◌/◌, ◌%◌, ◌<◌, ◌≤◌, ◌^◌, List, ◌∷◌, ◌++◌, length, take, drop, get_or, refl, ap, sym, ◌∙◌, arith, get_or-take}
use Rattle.std.specs.Int.{w16, w64, to_be_bytes, from_be_bytes}
use Rattle.std.specs.declared.cmp.Ordering.{Ordering}
use Rattle.std.specs.declared.cmp.Ordering.TheVariants.{Less, Equal, Greater}
use Rattle.std.specs.Ordering.{nat_cmp, ordering_then}
use Rattle.std.specs.Cmp.Lexicographic.{slice_cmp}
use Rattle.std.proofs.lemmas.Bool.Decides.{nat_tests}
use Rattle.std.proofs.Math.Seq.{drop-cons}
use Rattle.std.proofs.lemmas.Nat.{from_be_bytes-to_be_bytes_8}
use Rattle.far_object.specs.Encodings.{AreBytes, enc_u64}
use Rattle.far_object.specs.EncodingLaws.{u64_laws}

-- the number that the first n bytes spell
abbrev pub spelled : List ℕ → ℕ → ℕ
spelled xs zero = 0
spelled xs (suc n) = spelled xs n * 256 + get_or xs n 0

-- one more byte decides only where the numbers before it are equal
joined : (a b x y : ℕ) (o : Ordering) → x < 256 → y < 256 → ordering_then (nat_cmp (a * 256 + x) (b * 256 + y)) o ≡ ordering_then (nat_cmp a b) (ordering_then (nat_cmp x y) o)
joined a b x y o h k = grind (arith, nat_tests)

-- what the first bytes spell decides, and else what is left
pub front_decides : (n : ℕ) (xs ys : List ℕ) → n ≤ length xs → n ≤ length ys → AreBytes xs → AreBytes ys
    → ordering_then (nat_cmp (spelled xs n) (spelled ys n)) (slice_cmp nat_cmp (drop n xs) (drop n ys)) ≡ slice_cmp nat_cmp xs ys
front_decides zero xs ys h k p q = refl
front_decides (suc n) xs ys h k p q =
    let left : drop n xs ≡ get_or xs n 0 ∷ drop (suc n) xs = drop-cons xs n 0 (omega arith) in
    let right : drop n ys ≡ get_or ys n 0 ∷ drop (suc n) ys = drop-cons ys n 0 (omega arith) in
    joined (spelled xs n) (spelled ys n) (get_or xs n 0) (get_or ys n 0) (slice_cmp nat_cmp (drop (suc n) xs) (drop (suc n) ys)) (p n) (q n)
    ∙ ap (ordering_then (nat_cmp (spelled xs n) (spelled ys n))) (sym (λ i. slice_cmp nat_cmp (left i) (right i)))
    ∙ front_decides n xs ys (omega arith) (omega arith) p q

-- a number that is read from the first eight bytes is what they spell
pub word_spelled : (xs front : List ℕ) (x : ℕ) → front ≡ take 8 xs → x ≡ from_be_bytes w64 front → x ≡ spelled xs 8
word_spelled xs front x f e =
    let at : (i : ℕ) → i < 8 → get_or (take 8 xs) i 0 ≡ get_or xs i 0 = λ i h. rw get_or-take in
    e ∙ ap (from_be_bytes w64) f
    ∙ omega (arith, at 0 (omega arith), at 1 (omega arith), at 2 (omega arith), at 3 (omega arith), at 4 (omega arith), at 5 (omega arith), at 6 (omega arith), at 7 (omega arith))

-- numbers that differ leave nothing to what is behind them
pub unequal_decide : (x y : ℕ) (o : Ordering) → (x ≡ y → ⊥) → nat_cmp x y ≡ ordering_then (nat_cmp x y) o
unequal_decide x y o n = grind (arith, nat_tests)

-- numbers that are equal leave all to it
pub equal_leave : (x y : ℕ) (o : Ordering) → x ≡ y → o ≡ ordering_then (nat_cmp x y) o
equal_leave x y o e = grind (arith, nat_tests)

-- an outcome but Equal is final
pub others_decide : (r o : Ordering) → (r ≡ Equal → ⊥) → r ≡ ordering_then r o
others_decide Less o n = refl
others_decide Equal o n = absurd (n refl)
others_decide Greater o n = refl

-- Equal is not
pub equals_leave : (r o : Ordering) → r ≡ Equal → o ≡ ordering_then r o
equals_leave r o e = ap (λ z. ordering_then z o) (sym e)

-- two lengths decide as their bytes do, and else what is behind them
pub lengths_decide : (m n : ℕ) (xs ys : List ℕ) → m < 2 ^ 16 → n < 2 ^ 16
    → ordering_then (nat_cmp m n) (slice_cmp nat_cmp xs ys) ≡ slice_cmp nat_cmp (to_be_bytes w16 m ++ xs) (to_be_bytes w16 n ++ ys)
lengths_decide m n xs ys h k =
    let a : m ≡ m / 256 % 256 * 256 + m % 256 = omega arith in
    let b : n ≡ n / 256 % 256 * 256 + n % 256 = omega arith in
    (λ i. ordering_then (nat_cmp (a i) (b i)) (slice_cmp nat_cmp xs ys))
    ∙ joined (m / 256 % 256) (n / 256 % 256) (m % 256) (n % 256) (slice_cmp nat_cmp xs ys) (omega arith) (omega arith)

-- two numbers are in the order of their bytes
pub numbers_decide : (m n : ℕ) → m < 2 ^ 64 → n < 2 ^ 64 → nat_cmp m n ≡ slice_cmp nat_cmp (enc_u64 m) (enc_u64 n)
numbers_decide m n h k =
    let a : m ≡ spelled (enc_u64 m) 8 = sym (from_be_bytes-to_be_bytes_8 m h) ∙ omega arith in
    let b : n ≡ spelled (enc_u64 n) 8 = sym (from_be_bytes-to_be_bytes_8 n k) ∙ omega arith in
    alone (nat_cmp m n) ∙ (λ i. ordering_then (nat_cmp (a i) (b i)) Equal) ∙ front_decides 8 (enc_u64 m) (enc_u64 n) (omega arith) (omega arith) (u64_laws.bytes m h) (u64_laws.bytes n k)
  where
    alone : (o : Ordering) → o ≡ ordering_then o Equal
    alone Less = refl
    alone Equal = refl
    alone Greater = refl
