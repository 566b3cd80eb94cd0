use Rattle.far_server.specs.Flushes.{AreFlushed}
use Rattle.far_server.proofs.all_keys.empty_all.Given as goal

abbrev pub invariant-loop-bucket : goal.invariant-loop-bucket
invariant-loop-bucket g l = AreFlushed g.S.Calls.limits l.database l.bucket (g.S.Calls.shown l.fn.me) (g.S.Calls.shown l.me)
