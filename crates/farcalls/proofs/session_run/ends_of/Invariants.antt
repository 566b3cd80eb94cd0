use Rattle.std.proofs.Common.{◌≡◌}
use Rattle.farcalls.specs.Serving.{all_ended}
use Rattle.farcalls.proofs.session_run.ends_of.Given as goal

abbrev pub invariant-loop-state : goal.invariant-loop-state
invariant-loop-state g l = l.yielded ≡ all_ended l.ends.items
