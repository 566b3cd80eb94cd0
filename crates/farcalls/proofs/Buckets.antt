-- Numbers of buckets, and how they are spelled.
use Rattle.std.proofs.Common.{◌≡◌, ◌<◌, ◌+◌, ◌^◌, ◌<ℤ◌, ℕ, ℤ, zero, suc, pos, negsuc, List, [], ◌∷◌, get_or, ap, ◌∙◌, arith}
use borrow.Author.Differences.{lt_out}
use Rattle.std.specs.Fmt.{signed_decimal, decimal}
use Rattle.std.proofs.lemmas.Fmt.{decimal_injective, decimal_digit, first_decimal}

signed : (n b : ℕ) → b < 2 ^ 32 → signed_decimal (negsuc n) ≡ decimal b → ⊥
signed n zero small is =
    let sign : 45 ≡ 48 = ap (λ (l : List ℕ). get_or l 0 0) (is ∙ decimal_digit 0 (omega arith)) in
    absurd (omega (arith, sign))
signed n (suc b) small is =
    let first : 48 < get_or (decimal (suc b)) 0 0 = first_decimal (suc b) (omega arith) (omega (arith, small)) in
    let sign : 45 ≡ get_or (decimal (suc b)) 0 0 = ap (λ (l : List ℕ). get_or l 0 0) is in
    absurd (omega (arith, sign, first))

-- a number below 0 is spelled otherwise than a bucket's
pub negative : (z : ℤ) (b : ℕ) → b < 2 ^ 32 → z <ℤ pos 0 → signed_decimal z ≡ decimal b → ⊥
negative (pos n) b small below is = let less : n + 0 < 0 + 0 = lt_out (pos n) (pos 0) below in absurd (omega (arith, less))
negative (negsuc n) b small below is = signed n b small is

-- a larger number, too
pub too_high : (z : ℤ) (b : ℕ) → b < 2 ^ 32 → pos 4294967295 <ℤ z → z <ℤ pos 9223372036854775808 → signed_decimal z ≡ decimal b → ⊥
too_high (pos n) b small above fits is =
    let most : n + 0 < 9223372036854775808 + 0 = lt_out (pos n) (pos 9223372036854775808) fits in
    let least : 4294967295 + 0 < n + 0 = lt_out (pos 4294967295) (pos n) above in
    let same : n ≡ b = decimal_injective n b (omega (arith, most)) (omega (arith, small)) is in
    absurd (omega (arith, same, small, least))
too_high (negsuc n) b small above fits is = signed n b small is
