use Rattle.std.proofs.Common.{◌≡◌, ◌+◌, ℕ, List, [], ◌∷◌, length, take, drop, arith, sym, ap, ◌∙◌, subst, length-append}
use Rattle.std.proofs.lemmas.List.{take_rest}
use Rattle.resp.specs.declared.limits.Limits.{Limits}
use Rattle.resp.specs.Lines.{number, Lacks, Spoilt, Begins, IsPositive}
use Rattle.resp.specs.Laws.{AreNumbers}
use Rattle.resp.specs.Replies.{token, IsTaken}
use Rattle.resp.specs.Replies.{Nothing}
use Rattle.resp.proofs.Commands.{behind_two}
use Rattle.resp.proofs.Marks.{only_nothing, minus_one}
use Rattle.resp.proofs.Receiving.{lift_begins, lift_lacks, lift_spoilt}
use Rattle.resp.proofs.tokens.nothing_at.Goals as goal

same : (x : ℕ) → IsPositive 1 x → token (Nothing) ≡ 36 ∷ 45 ∷ number x
same x h =
    let one : x ≡ 1 = omega (arith, h.0, h.1) in
    sym (ap (λ n. 36 ∷ 45 ∷ number n) one ∙ minus_one 36)

may : (limits : Limits) (x : ℕ) → IsPositive 1 x → IsTaken limits (Nothing)
may limits x h = tt

pub returns-in-Short : goal.returns-in-Short
returns-in-Short c =
    let bytes = c.args.bytes.now in
    let limits = c.args.limits in
    let fits : AreNumbers c.args.limits = record { arguments = omega arith; bytes = omega arith; line = omega arith } in
    let is = behind_two bytes 36 45 c.requires.some c.requires.marked c.requires.minus in
    let n = c.in-Short.missing in
    let P : List ℕ → Type 0 = λ l. Lacks number (IsPositive 1) l n in
    lift_lacks limits number (IsPositive 1) (λ n. Nothing) (36 ∷ 45 ∷ []) (drop 2 bytes) bytes n same (may limits) is (only_nothing limits (drop 2 bytes) fits) (subst P (take_rest bytes 2) c.in-Short.ensures.0)

pub returns-in-Bad : goal.returns-in-Bad
returns-in-Bad c =
    let bytes = c.args.bytes.now in
    let limits = c.args.limits in
    let fits : AreNumbers c.args.limits = record { arguments = omega arith; bytes = omega arith; line = omega arith } in
    let is = behind_two bytes 36 45 c.requires.some c.requires.marked c.requires.minus in
    let at = c.in-Bad.at in
    let P : List ℕ → Type 0 = λ l. Spoilt number (IsPositive 1) l at in
    lift_spoilt limits number (IsPositive 1) (λ n. Nothing) (36 ∷ 45 ∷ []) (drop 2 bytes) bytes at (at + 2) same (may limits) is (omega arith) (only_nothing limits (take (at + 1) (drop 2 bytes)) fits) (subst P (take_rest bytes 2) c.in-Bad.ensures)

pub returns-in-Whole : goal.returns-in-Whole
returns-in-Whole c =
    let bytes = c.args.bytes.now in
    let limits = c.args.limits in
    let is = behind_two bytes 36 45 c.requires.some c.requires.marked c.requires.minus in
    let len = c.in-Whole.len in
    let v = c.in-Whole.value in
    let P : List ℕ → Type 0 = λ l. Begins number (IsPositive 1) l v len in
    let begins = lift_begins limits number (IsPositive 1) (λ n. Nothing) (36 ∷ 45 ∷ []) (drop 2 bytes) bytes v len (len + 2) same (may limits) is (omega arith) (subst P (take_rest bytes 2) c.in-Whole.ensures) in
    (begins, omega (arith, ap length begins.is, length-append (token Nothing) begins.rest, begins.long), tt)
