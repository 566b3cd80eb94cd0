use Rattle.std.proofs.Common.{Bool}
use Rattle.far_server.specs.Sweeps.{Sweeps}
use Rattle.far_server.proofs.sweep.expire_in.Given as goal

abbrev pub invariant-loop-key : goal.invariant-loop-key
invariant-loop-key g l = (evicts : Bool) → Sweeps g.S.Calls.limits evicts (g.S.Calls.shown l.fn.me) (g.S.Calls.shown l.me)
