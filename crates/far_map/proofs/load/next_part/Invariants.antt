use Rattle.std.proofs.Common.{◌≡◌}
use Rattle.version_words.specs.Views.{Goes}
use Rattle.far_map.proofs.load.next_part.Given as goal

abbrev pub invariant-loop : goal.invariant-loop
invariant-loop g l = Goes (g.S.Calls.shown l.fn.me).pass (g.S.Calls.shown l.me).pass × (l.rest ≡ l.fn.rest)
