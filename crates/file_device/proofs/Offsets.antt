-- Slots of a class are apart.
use Rattle.std.proofs.Common.{◌≡◌, ℕ, ◌+◌, ◌*◌, ◌^◌, ◌≤◌, ◌<◌, arith, sym, ◌∙◌, subst}
use Rattle.std.proofs.Math.Pow.{pow_mono}
use Rattle.std.proofs.Math.Nat.{div-eq_of_lt-le, mul-le-mul, mul-le-mul_right}
use Rattle.file_device.specs.declared.slot.Slot.{Slot}
use Rattle.file_device.specs.Offsets.{size_of, AreApart}

same_number : (size n m at : ℕ) → n * size ≤ at → at < (n + 1) * size → m * size ≤ at → at < (m + 1) * size → n ≡ m
same_number size n m at above below other_above other_below =
    sym (div-eq_of_lt-le {k = n} size {m = at} above below) ∙ div-eq_of_lt-le {k = m} size {m = at} other_above other_below

pub apart : (one other : Slot) → AreApart one other
apart one other same at here there =
    let P : ℕ → Type 0 = λ class. (other.number * (64 * 2 ^ class) ≤ at) × (at < (other.number + 1) * (64 * 2 ^ class)) in
    let moved = subst P (sym same) there in
    same_number (size_of one) one.number other.number at here.0 here.1 moved.0 moved.1

-- each slot ends below 2 ^ 58, so that its place is a u64
pub ends_low : (n class : ℕ) → n < 2 ^ 32 → class < 21 → (n + 1) * (64 * 2 ^ class) ≤ 2 ^ 58
ends_low n class few known =
    let power : 2 ^ class ≤ 2 ^ 20 = pow_mono {i = class} {j = 20} (omega arith) in
    let size : 64 * 2 ^ class ≤ 2 ^ 26 = omega arith in
    let count : n + 1 ≤ 2 ^ 32 = omega arith in
    mul-le-mul {n₁ = n + 1} {m₁ = 64 * 2 ^ class} {n₂ = 2 ^ 32} {m₂ = 2 ^ 26} count size

pub begins_low : (n class : ℕ) → n < 2 ^ 32 → class < 21 → n * (64 * 2 ^ class) < 2 ^ 64
begins_low n class few known =
    let ends = ends_low n class few known in
    let before : n * (64 * 2 ^ class) ≤ (n + 1) * (64 * 2 ^ class) = mul-le-mul_right {m = n} {n = n + 1} (64 * 2 ^ class) (omega arith) in
    omega (arith, ends, before)

-- the same of numbers that are these
pub fits_at : (n class from bytes : ℕ) → from ≡ n → bytes ≡ 64 * 2 ^ class → n < 2 ^ 32 → class < 21 → from * bytes < 2 ^ 64
fits_at n class from bytes is size few known =
    subst (λ x. x * bytes < 2 ^ 64) (sym is) (subst (λ x. n * x < 2 ^ 64) (sym size) (begins_low n class few known))
