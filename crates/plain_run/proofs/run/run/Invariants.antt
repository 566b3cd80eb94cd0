use Rattle.plain_run.proofs.Replies.{Running}
use Rattle.plain_run.proofs.run.run.Given as goal

abbrev pub invariant-loop-at : goal.invariant-loop-at
invariant-loop-at l = Running l.fn.table l.table l.fn.script l.at l.lines.items
