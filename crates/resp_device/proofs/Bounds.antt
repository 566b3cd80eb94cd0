-- How long a reply may be.
use Rattle.std.proofs.Common.{ℕ, ◌+◌, ◌^◌, ◌<◌, ◌≤◌, suc, pos, negsuc, List, [], ◌∷◌, ◌++◌, length, ap, arith, length-append}
use Rattle.std.specs.Prelude.{decimal}
use Rattle.std.proofs.lemmas.Fmt.{length-decimal-le}
use Rattle.resp.specs.declared.limits.Limits.{Limits}
use Rattle.resp.specs.Lines.{Lacks, line}
use Rattle.resp.specs.Replies.{Token, token, IsTaken}
use Rattle.resp.specs.Replies.{Simple, Failure, Number, String, Nothing, Count, NoArray}

length_line : (mark n : ℕ) → n < 2 ^ 32 → length (line mark n) ≤ 13
length_line mark n small = omega (arith, length-append (decimal n) (13 ∷ 10 ∷ []), length-decimal-le 10 n (omega arith) (omega arith) (omega arith))

length_token : (limits : Limits) (t : Token) → limits.bytes < 2 ^ 32 → limits.arguments < 2 ^ 32 → IsTaken limits t → length (token t) ≤ limits.bytes + limits.line + 23
length_token limits (Simple text) b a may = omega (arith, length-append text (13 ∷ 10 ∷ []), may.short)
length_token limits (Failure text) b a may = omega (arith, length-append text (13 ∷ 10 ∷ []), may.short)
length_token limits (Number (pos n)) b a may = omega (arith, length-append (decimal n) (13 ∷ 10 ∷ []), length-decimal-le 19 n (omega arith) (omega (arith, may)) (omega (arith, may)))
length_token limits (Number (negsuc n)) b a may = omega (arith, length-append (decimal (suc n)) (13 ∷ 10 ∷ []), length-decimal-le 19 (suc n) (omega arith) (omega (arith, may)) (omega (arith, may)))
length_token limits (String bytes) b a may = omega (arith, length-append (line 36 (length bytes)) (bytes ++ 13 ∷ 10 ∷ []), length-append bytes (13 ∷ 10 ∷ []), length_line 36 (length bytes) (omega (arith, may)), may)
length_token limits Nothing b a may = omega arith
length_token limits (Count n) b a may = omega (arith, length_line 42 n (omega (arith, may)))
length_token limits NoArray b a may = omega arith

-- the beginning of a reply is no longer than a reply may be
pub length_lacking : (limits : Limits) (bytes : List ℕ) (n : ℕ) → limits.bytes < 2 ^ 32 → limits.arguments < 2 ^ 32 → Lacks token (IsTaken limits) bytes n → length bytes ≤ limits.bytes + limits.line + 23
length_lacking limits bytes n b a lacks =
    omega (arith, length-append bytes lacks.rest, ap (λ (l : List ℕ). length l) lacks.is, length_token limits lacks.value b a lacks.may)
