use Rattle.std.proofs.Common.{◌≡◌}
use Rattle.threaded_run.specs.Replies.{shown}
use Rattle.threaded_run.proofs.Working.{Working}
use Rattle.threaded_run.proofs.worker.work.Given as goal

abbrev pub invariant-loop-at : goal.invariant-loop-at
invariant-loop-at g l =
    Working g.S.Calls.limits (g.S.Calls.shown l.fn.me).limit (g.S.Calls.shown l.fn.me).pass (g.S.Calls.shown l.me).pass (shown g.S.Calls.held l.held) l.script l.at l.lines.items
    × ((g.S.Calls.shown l.me).limit ≡ (g.S.Calls.shown l.fn.me).limit)
