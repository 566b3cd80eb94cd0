use Rattle.far_map.specs.Loads.{PutsEach}
use Rattle.far_map.proofs.load.put_each.Given as goal

abbrev pub invariant-loop-key : goal.invariant-loop-key
invariant-loop-key g l = PutsEach l.yielded (g.S.Calls.shown l.fn.me).pass (g.S.Calls.shown l.me).pass l.refused
