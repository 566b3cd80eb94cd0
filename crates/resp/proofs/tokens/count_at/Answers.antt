use Rattle.std.proofs.Common.{◌+◌, ◌≤◌, ℕ, List, [], ◌∷◌, drop, get_or, arith, refl, sym, subst}
use Rattle.std.proofs.lemmas.List.{take_rest}
use Rattle.resp.specs.declared.limits.Limits.{Limits}
use Rattle.resp.specs.Lines.{number, Spoilt, LacksLine}
use Rattle.resp.specs.Replies.{token, IsTaken}
use Rattle.resp.specs.Replies.{Count}
use Rattle.resp.proofs.Marks.{only_count}
use Rattle.resp.proofs.Outcomes.{Only}
use Rattle.resp.proofs.Receiving.{lift_lacks, lift_spoilt, behind_one, second_of, second_taken, plain_lacks}
use Rattle.resp.proofs.tokens.count_at.Goals as goal

may : (limits : Limits) (x : ℕ) → x ≤ limits.arguments → IsTaken limits (Count x)
may limits x h = h

pub returns-in-Short : goal.returns-in-Short
returns-in-Short c =
    let bytes = c.args.bytes.now in
    let limits = c.args.limits in
    let is = behind_one bytes 42 (omega (arith, c.requires.some)) c.requires.marked in
    let n = c.in-Short.missing in
    let r = second_of bytes c.requires.some in
    let P : List ℕ → Type 0 = λ l. LacksLine number limits.arguments l c.in-Short.value n in
    let O : List ℕ → Type 0 = λ l. Only (λ x. 42 ∷ number x) (λ x. x ≤ limits.arguments) token (IsTaken limits) (42 ∷ l) in
    lift_lacks limits number (λ x. x ≤ limits.arguments) (Count) (42 ∷ []) (drop 1 bytes) bytes n (λ x h. refl) (may limits) is (subst O (sym r.1) (only_count limits (get_or bytes 1 0) r.0 c.requires.plain)) (plain_lacks limits.arguments (drop 1 bytes) c.in-Short.value n (subst P (take_rest bytes 1) c.in-Short.ensures))

pub returns-in-Bad : goal.returns-in-Bad
returns-in-Bad c =
    let bytes = c.args.bytes.now in
    let limits = c.args.limits in
    let is = behind_one bytes 42 (omega (arith, c.requires.some)) c.requires.marked in
    let at = c.in-Bad.at in
    let r = second_taken bytes at c.requires.some in
    let P : List ℕ → Type 0 = λ l. Spoilt number (λ x. x ≤ limits.arguments) l at in
    let O : List ℕ → Type 0 = λ l. Only (λ x. 42 ∷ number x) (λ x. x ≤ limits.arguments) token (IsTaken limits) (42 ∷ l) in
    lift_spoilt limits number (λ x. x ≤ limits.arguments) (Count) (42 ∷ []) (drop 1 bytes) bytes at (at + 1) (λ x h. refl) (may limits) is (omega arith) (subst O (sym r.1) (only_count limits (get_or bytes 1 0) r.0 c.requires.plain)) (subst P (take_rest bytes 1) c.in-Bad.ensures)
