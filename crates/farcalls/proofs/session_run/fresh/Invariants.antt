use Rattle.std.proofs.Common.{◌≡◌}
use Rattle.farcalls.specs.Serving.{all_fresh}
use Rattle.farcalls.proofs.session_run.fresh.Given as goal

abbrev pub invariant-loop-made : goal.invariant-loop-made
invariant-loop-made g l = l.states.items ≡ all_fresh l.made
