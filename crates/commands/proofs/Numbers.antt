-- Numbers of 64 bits with a sign, as they are spelled.
use Rattle.std.proofs.Common.{◌≡◌, ℕ, ℤ, pos, decimal, ◌<◌, ◌^◌, FitsSigned, List, length, false, Result, Ok, to_z, of_z, lit<, get_or, take, zero, suc, [], ◌∷◌, sym, ap, ◌∙◌, subst, arith, rules}
use Rattle.std.specs.Int.{w64}
use Rattle.std.specs.Fmt.{signed_decimal}
use Rattle.std.specs.Str.{IsUtf8}
use Rattle.std.specs.Str.Parse.{ParsesSigned}
use Rattle.std.proofs.lemmas.Fmt.{length_signed_le, parse-signed_decimal, IsAscii-signed, signed_decimal_injective}
use Rattle.std.proofs.lemmas.Str.{IsUtf8-from_ascii}
use Rattle.std.specs.Str.{bytes_eq}
use Rattle.std.proofs.lemmas.Slice.Eq.{bytes_eq-Decides}
use Rattle.std.proofs.lemmas.Int.{to_z-of_z}
use lib.Signed.{mag}

pub small : (z : ℤ) → FitsSigned w64 z → mag z < 2 ^ 63
small z fits = search rules

pub fits_byte : (d : ℕ) → d < 256 → FitsSigned w64 (pos d)
fits_byte d lt = search rules

-- what spells a number of a byte spells no other
pub one_number : (z : ℤ) → FitsSigned w64 z → (d : ℕ) → d < 256 → (bytes : List ℕ) → bytes ≡ signed_decimal z → bytes ≡ decimal d → z ≡ pos d
one_number z fits d lt bytes is same = signed_decimal_injective z (pos d) (small z fits) (small (pos d) (fits_byte d lt)) (sym is ∙ same)

pub too_long : (bytes : List ℕ) → 20 < length bytes → (z : ℤ) → FitsSigned w64 z → bytes ≡ signed_decimal z → ⊥
too_long bytes long z fits is =
    let m = small z fits in
    omega (arith, length_signed_le 19 z (omega arith) m, ap length is)

pub is_text : (z : ℤ) → FitsSigned w64 z → (bytes : List ℕ) → bytes ≡ signed_decimal z → IsUtf8 bytes
is_text z fits bytes is = subst IsUtf8 (sym is) (IsUtf8-from_ascii (signed_decimal z) (IsAscii-signed z (small z fits)))

pub parsed : {E : Type 0} (z : ℤ) → FitsSigned w64 z → (bytes : List ℕ) (r : Result ℤ E) → bytes ≡ signed_decimal z → ParsesSigned w64 10 bytes r → r ≡ Ok z
parsed z fits bytes r is parses = parse-signed_decimal w64 z bytes r fits (small z fits) is parses

pub bytes_taken : (n : ℕ) (bytes : List ℕ) → ((i : ℕ) → get_or bytes i 0 < 256) → (i : ℕ) → get_or (take n bytes) i 0 < 256
bytes_taken zero bytes h i = lit< tt
bytes_taken (suc n) [] h i = lit< tt
bytes_taken (suc n) (b ∷ bytes) h zero = h 0
bytes_taken (suc n) (b ∷ bytes) h (suc i) = bytes_taken n bytes (λ j. h (suc j)) i

-- what spells the number that a text was parsed to is that text, if the text spells a number
pub not_other : {E : Type 0} (n z : ℤ) → FitsSigned w64 z → (r : Result ℤ E) (bytes spelling : List ℕ) → r ≡ Ok n → r ≡ Ok z → spelling ≡ signed_decimal (to_z w64 (of_z w64 n)) → bytes ≡ signed_decimal z → bytes_eq spelling bytes ≡ false → ⊥
not_other n z fits r bytes spelling first second spelt is differ =
    let number : n ≡ z = cc in
    let back = ap (λ x. to_z w64 (of_z w64 x)) number ∙ to_z-of_z w64 z fits in
    let equal = (bytes_eq-Decides spelling bytes).1 (spelt ∙ (ap signed_decimal back ∙ sym is)) in
    cc
