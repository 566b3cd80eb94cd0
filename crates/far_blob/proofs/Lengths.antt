-- A comparison of two blobs by their lengths, whose bytes stand before theirs.
use Rattle.std.proofs.Common.{◌≡◌, ℕ, ◌+◌, ◌*◌, ◌/◌, ◌%◌, ◌<◌, ◌^◌, List, ◌++◌, ap, ◌∙◌, arith}
use Rattle.std.specs.Int.{w32, to_be_bytes}
use Rattle.std.specs.declared.cmp.Ordering.{Ordering}
use Rattle.std.specs.Ordering.{nat_cmp, ordering_then}
use Rattle.std.specs.Cmp.Lexicographic.{slice_cmp}
use Rattle.std.proofs.lemmas.Bool.Decides.{nat_tests}
use native.Mathlib.Nat as nat

-- one more byte decides only where the numbers before it are equal
joined : (a b x y : ℕ) (o : Ordering) → x < 256 → y < 256 → ordering_then (nat_cmp (a * 256 + x) (b * 256 + y)) o ≡ ordering_then (nat_cmp a b) (ordering_then (nat_cmp x y) o)
joined a b x y o h k = grind (arith, nat_tests)

-- the same of a number of which that byte is the last
parted : (m n a b x y : ℕ) (o : Ordering) → x < 256 → y < 256 → m ≡ a * 256 + x → n ≡ b * 256 + y → ordering_then (nat_cmp m n) o ≡ ordering_then (nat_cmp a b) (ordering_then (nat_cmp x y) o)
parted m n a b x y o h k p q = (λ i. ordering_then (nat_cmp (p i) (q i)) o) ∙ joined a b x y o h k

-- two lengths decide as their bytes do, and else what is behind them
pub lengths_decide : (m n : ℕ) (xs ys : List ℕ) → m < 2 ^ 32 → n < 2 ^ 32
    → ordering_then (nat_cmp m n) (slice_cmp nat_cmp xs ys) ≡ slice_cmp nat_cmp (to_be_bytes w32 m ++ xs) (to_be_bytes w32 n ++ ys)
lengths_decide m n xs ys h k =
    let rest = slice_cmp nat_cmp xs ys in
    let one = ordering_then (nat_cmp (m % 256) (n % 256)) rest in
    let two = ordering_then (nat_cmp (m / 256 % 256) (n / 256 % 256)) one in
    parted m n (m / 256) (n / 256) (m % 256) (n % 256) rest (omega arith) (omega arith) (omega arith) (omega arith)
    ∙ parted (m / 256) (n / 256) (m / 65536) (n / 65536) (m / 256 % 256) (n / 256 % 256) one (omega arith) (omega arith) (byte_before m 256) (byte_before n 256)
    ∙ parted (m / 65536) (n / 65536) (m / 16777216 % 256) (n / 16777216 % 256) (m / 65536 % 256) (n / 65536 % 256) two (omega arith) (omega arith) (top m h) (top n k)
  where
    byte_before : (m p : ℕ) → m / p ≡ m / (p * 256) * 256 + m / p % 256
    byte_before m p = omega (arith, nat.div-div-eq-div-mul m p 256)

    top : (m : ℕ) → m < 2 ^ 32 → m / 65536 ≡ m / 16777216 % 256 * 256 + m / 65536 % 256
    top m h = omega (arith, byte_before m 65536)
