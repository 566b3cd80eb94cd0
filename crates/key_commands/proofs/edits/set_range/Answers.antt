-- What is written over the bytes is the definition's.
use Rattle.std.proofs.Common.{◌≡◌, ℤ, pos, FitsSigned, eqb, length, false, sym, ap, ◌∙◌, rules}
use Rattle.std.specs.Int.{w64}
use Rattle.std.proofs.lemmas.Int.{to_z-of_z}
use Rattle.resp.specs.Replies.{Number}
use Rattle.key_commands.specs.Outcomes.{sets}
use Rattle.key_commands.specs.Editing.{over}
use Rattle.key_commands.specs.Answers.{seen, outcome_of}
use Rattle.key_commands.proofs.Overs.{is_overwritten, not_over}
use Rattle.key_commands.proofs.edits.set_range.Goals as goal

pub returns-in_default : goal.returns-in_default
returns-in_default c =
    let some : eqb (length c.args.new.now) 0 ≡ false = cc in
    let all = not_over c.args.offset c.args.new.now c.args.most (seen c.args.value) some c.in_default.ensures in
    cc

pub returns : goal.returns
returns c =
    let some : eqb (length c.args.new.now) 0 ≡ false = sym c.is_empty.ensures ∙ c.if-is_empty.false in
    let fits : FitsSigned w64 (pos c.max-len.result) = search rules in
    let number = to_z-of_z w64 (pos c.max-len.result) fits in
    let set = c.sets.ensures ∙ ap (λ (n : ℤ). sets (Number n) c.deadline_of.result (over c.in-Some.offset c.args.new.now c.bytes_of-old.result.now)) number in
    is_overwritten c.args.offset c.args.new.now c.args.most (seen c.args.value) c.bytes_of-old.result.now c.in-Some.offset c.max-len.result c.deadline_of.result (outcome_of c.sets.result) some c.in-Some.ensures.0
    c.bytes_of-old.ensures c.in-Some.ensures.1 c.max-len.ensures c.deadline_of.ensures set
