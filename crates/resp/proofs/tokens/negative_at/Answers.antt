use Rattle.std.proofs.Common.{◌≡◌, ◌+◌, ◌-◌, ◌^◌, ℕ, suc, negsuc, List, [], ◌∷◌, take, drop, arith, ap, subst}
use Rattle.std.proofs.lemmas.List.{take_rest}
use Rattle.resp.specs.declared.limits.Limits.{Limits}
use Rattle.resp.specs.Lines.{number, Lacks, Spoilt, IsPositive}
use Rattle.resp.specs.Replies.{token, IsTaken}
use Rattle.resp.specs.Replies.{Number}
use Rattle.resp.proofs.Commands.{behind_two}
use Rattle.resp.proofs.Marks.{only_negative}
use Rattle.resp.proofs.Receiving.{lift_lacks, lift_spoilt}
use Rattle.resp.proofs.tokens.negative_at.Goals as goal

same : (x : ℕ) → IsPositive (2 ^ 63) x → token (Number (negsuc (x - 1))) ≡ 58 ∷ 45 ∷ number x
same x h =
    let next : suc (x - 1) ≡ x = omega (arith, h.0) in
    ap (λ n. 58 ∷ 45 ∷ number n) next

may : (limits : Limits) (x : ℕ) → IsPositive (2 ^ 63) x → IsTaken limits (Number (negsuc (x - 1)))
may limits x h = omega (arith, h.0, h.1)

pub returns-in-Short : goal.returns-in-Short
returns-in-Short c =
    let bytes = c.args.bytes.now in
    let limits = c.args.limits in
    let is = behind_two bytes 58 45 c.requires.some c.requires.marked c.requires.minus in
    let n = c.in-Short.missing in
    let P : List ℕ → Type 0 = λ l. Lacks number (IsPositive (2 ^ 63)) l n in
    lift_lacks limits number (IsPositive (2 ^ 63)) (λ n. Number (negsuc (n - 1))) (58 ∷ 45 ∷ []) (drop 2 bytes) bytes n same (may limits) is (only_negative limits (drop 2 bytes)) (subst P (take_rest bytes 2) c.in-Short.ensures.0)

pub returns-in-Bad : goal.returns-in-Bad
returns-in-Bad c =
    let bytes = c.args.bytes.now in
    let limits = c.args.limits in
    let is = behind_two bytes 58 45 c.requires.some c.requires.marked c.requires.minus in
    let at = c.in-Bad.at in
    let P : List ℕ → Type 0 = λ l. Spoilt number (IsPositive (2 ^ 63)) l at in
    lift_spoilt limits number (IsPositive (2 ^ 63)) (λ n. Number (negsuc (n - 1))) (58 ∷ 45 ∷ []) (drop 2 bytes) bytes at (at + 2) same (may limits) is (omega arith) (only_negative limits (take (at + 1) (drop 2 bytes))) (subst P (take_rest bytes 2) c.in-Bad.ensures)
