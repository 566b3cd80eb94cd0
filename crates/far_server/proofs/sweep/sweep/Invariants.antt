use Rattle.far_server.specs.Sweeps.{Sweeps}
use Rattle.far_server.proofs.sweep.sweep.Given as goal

abbrev pub invariant-loop : goal.invariant-loop
invariant-loop g l = Sweeps g.S.Calls.limits l.fn.context.settings.now.options.evicts (g.S.Calls.shown l.fn.me) (g.S.Calls.shown l.me)
