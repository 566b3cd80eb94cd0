use Rattle.std.proofs.Common.{◌≡◌, true, take}
use Rattle.std.specs.Prelude.{All}
use Rattle.farcalls.specs.Runs.{is_served}
use Rattle.farcalls.proofs.check_ends.Given as goal

abbrev pub invariant-loop-end : goal.invariant-loop-end
invariant-loop-end l = All (λ end. is_served end ≡ true) (take l.end-index l.ends)
