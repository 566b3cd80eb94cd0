use Rattle.std.proofs.Common.{◌≡◌, ◌+◌, ◌-◌, ◌≤◌, ℕ, List, [], ◌∷◌, length, take, drop, arith, refl, subst, length-drop}
use Rattle.std.proofs.lemmas.List.{take_rest}
use Rattle.resp.specs.Lines.{Lacks, Spoilt, Begins}
use Rattle.resp.specs.Replies.{text_line, IsText}
use Rattle.resp.specs.Replies.{Failure}
use Rattle.resp.proofs.Marks.{only_failure}
use Rattle.resp.proofs.Receiving.{lift_begins, lift_lacks, lift_spoilt, behind_one}
use Rattle.resp.proofs.tokens.failure_at.Goals as goal

pub returns-in-Short : goal.returns-in-Short
returns-in-Short c =
    let bytes = c.args.bytes.now in
    let limits = c.args.limits in
    let is = behind_one bytes 45 c.requires.some c.requires.marked in
    let n = c.in-Short.missing in
    let P : List ℕ → Type 0 = λ l. Lacks text_line (IsText limits.line) l n in
    lift_lacks limits text_line (IsText limits.line) Failure (45 ∷ []) (drop 1 bytes) bytes n (λ x h. refl) (λ x h. h) is (only_failure limits (drop 1 bytes)) (subst P (take_rest bytes 1) c.in-Short.ensures)

pub returns-in-Bad : goal.returns-in-Bad
returns-in-Bad c =
    let bytes = c.args.bytes.now in
    let limits = c.args.limits in
    let is = behind_one bytes 45 c.requires.some c.requires.marked in
    let at = c.in-Bad.at in
    let P : List ℕ → Type 0 = λ l. Spoilt text_line (IsText limits.line) l at in
    lift_spoilt limits text_line (IsText limits.line) Failure (45 ∷ []) (drop 1 bytes) bytes at (at + 1) (λ x h. refl) (λ x h. h) is (omega arith) (only_failure limits (take (at + 1) (drop 1 bytes))) (subst P (take_rest bytes 1) c.in-Bad.ensures)

pub returns-in-Whole : goal.returns-in-Whole
returns-in-Whole c =
    let bytes = c.args.bytes.now in
    let limits = c.args.limits in
    let is = behind_one bytes 45 c.requires.some c.requires.marked in
    let len = c.in-Whole.len in
    let P : List ℕ → Type 0 = λ l. Begins text_line (IsText limits.line) l (take len l) (len + 2) × (len + 2 ≤ length l) in
    let whole : Begins text_line (IsText limits.line) (drop 1 bytes) (take len (drop 1 bytes)) (len + 2) × (len + 2 ≤ length (drop 1 bytes)) = subst P (take_rest bytes 1) c.in-Whole.ensures in
    let long : length (drop 1 bytes) ≡ length bytes - 1 = length-drop 1 bytes in
    let some = c.requires.some in (
      lift_begins limits text_line (IsText limits.line) Failure (45 ∷ []) (drop 1 bytes) bytes (take len (drop 1 bytes)) (len + 2) (len + 3) (λ x h. refl) (λ x h. h) is (omega arith) whole.0,
      omega (arith, whole.1),
      omega (arith, whole.1),
    )
