use Rattle.version_words.specs.Views.{Goes}
use Rattle.far_map.proofs.load.put_one.Given as goal

abbrev pub invariant-loop : goal.invariant-loop
invariant-loop g l = Goes (g.S.Calls.shown l.fn.me).pass (g.S.Calls.shown l.me).pass
