use Rattle.std.proofs.Common.{◌≡◌}
use Rattle.far_server.specs.Serving.{all_fresh}
use Rattle.far_server.proofs.run.fresh.Given as goal

abbrev pub invariant-loop-made : goal.invariant-loop-made
invariant-loop-made g l = l.states.items ≡ all_fresh l.made
