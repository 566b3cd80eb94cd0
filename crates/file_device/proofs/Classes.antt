-- A slot of an object's class is as long as the object.
use Rattle.std.proofs.Common.{◌≡◌, ℕ, ◌+◌, ◌-◌, ◌*◌, ◌/◌, ◌^◌, ◌≤◌, ◌<◌, arith, subst}
use Rattle.std.proofs.lemmas.Nat.{leading_length}
use Rattle.std.proofs.Math.Pow.{pow_mono}
use Rattle.std.specs.Int.Count.{count_leading_zeros}

-- 2 ^ 21 is more than any such number
few_bits : (bits whole : ℕ) → whole < 2 ^ 20 → 2 ^ bits ≤ 2 * whole + 1 → bits < 21
few_bits bits whole small reached =
    let grows : 21 ≤ bits → 2 ^ 21 ≤ 2 ^ bits = λ h. pow_mono h in
    grind (arith, grows)

fits_in : (len whole bits zeros : ℕ) → whole ≡ (len - 1) / 64 → len ≤ 2 ^ 26 → zeros + bits ≡ 32 → whole < 2 ^ bits → 2 ^ bits ≤ 2 * whole + 1 → (32 - zeros ≤ 20) × (len ≤ 64 * 2 ^ (32 - zeros))
fits_in len whole bits zeros is short sum below reached =
    let low : bits < 21 = few_bits bits whole (omega arith) reached in
    let same : bits ≡ 32 - zeros = omega arith in
    let reaches : len ≤ 64 * 2 ^ bits = omega arith in
    let P : ℕ → Type 0 = λ class. (class ≤ 20) × (len ≤ 64 * 2 ^ class) in
    subst P same (omega arith, reaches)

pub class_of-fits : (len whole : ℕ) → whole ≡ (len - 1) / 64 → len ≤ 2 ^ 26 → (32 - count_leading_zeros 32 whole ≤ 20) × (len ≤ 64 * 2 ^ (32 - count_leading_zeros 32 whole))
class_of-fits len whole is short =
    let count = leading_length 32 whole (omega arith) in
    fits_in len whole count.0 (count_leading_zeros 32 whole) is short count.1 count.2 count.3
