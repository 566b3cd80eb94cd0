use Rattle.std.proofs.Common.{ℕ, List, [], ◌∷◌, ◌++◌, ap, ◌∙◌}
use Rattle.plain_run.proofs.Replies.{start, room, next, finish, here, asks_table}
use Rattle.plain_run.proofs.run.run.Goals as goal

pub loop-at-init : goal.loop-at-init
loop-at-init c = start c.args.table.now c.args.script.now c.new-lines.result.items c.new-lines.ensures.items c.requires.fresh

pub returns-in-Ok-Table-clause-fault : goal.returns-in-Ok-Table-clause-fault
returns-in-Ok-Table-clause-fault c =
    asks_table c.args.table.now c.loop-at.table c.args.script.now c.loop-at.at c.loop-at.lines.items c.in-Ok-Table.field-0-0 c.loop-at.invariant
    (rw c.len-at-end.ensures.count at c.loop-at-test.true) (here c.args.script.now c.loop-at.at _ _ c.in-Ok-Table.ensures c.in-Ok-Table.field-0-is)

pub answer-reply-requires : goal.answer-reply-requires
answer-reply-requires c =
    record {
      stands =
          room c.args.table.now c.loop-at.table c.args.script.now c.loop-at.at c.loop-at.lines.items c.loop-at.invariant
          (rw c.len-at-end.ensures.count at c.loop-at-test.true) c.len-at-end.ensures.few;
    }

pub loop-at-preserved : goal.loop-at-preserved
loop-at-preserved c =
    next c.args.table.now c.loop-at.table c.answer-reply.new.self c.args.script.now c.loop-at.at c.loop-at.lines.items c.push_line.new.lines.items c.in-Ok-Map.command c.answer-reply.result
    c.loop-at.invariant (rw c.len-at-end.ensures.count at c.loop-at-test.true) c.len-at-end.ensures.few
    (here c.args.script.now c.loop-at.at _ _ c.in-Ok-Map.ensures c.in-Ok-Map.field-0-is) c.answer-reply.ensures
    (c.in-Ok.ensures ∙ ap (λ (line : List ℕ). c.loop-at.lines.items ++ (line ++ 10 ∷ [])) c.reply_text.ensures)

pub returns-clause-ran : goal.returns-clause-ran
returns-clause-ran c =
    finish c.args.table.now c.loop-at.table c.args.script.now c.loop-at.at c.loop-at.lines.items c.loop-at.invariant (rw c.len-at-end.ensures.count at c.loop-at-test.false)
