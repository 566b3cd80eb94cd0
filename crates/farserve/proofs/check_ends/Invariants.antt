use Rattle.std.proofs.Common.{◌≡◌, true, take}
use Rattle.std.specs.Prelude.{All}
use Rattle.farserve.specs.Serving.{is_served}
use Rattle.farserve.proofs.check_ends.Given as goal

abbrev pub invariant-loop-end : goal.invariant-loop-end
invariant-loop-end l = All (λ end. is_served end ≡ true) (take l.end-index l.ends)
