use Rattle.std.proofs.Common.{◌≡◌}
use Rattle.version_words.specs.Views.{Goes}
use Rattle.far_map.proofs.placement.turn.Given as goal

abbrev pub invariant-loop : goal.invariant-loop
invariant-loop g l = Goes l.fn.caller.pass l.caller.pass × (l.caller.limbo ≡ l.fn.caller.limbo)
