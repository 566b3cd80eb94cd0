use Rattle.std.proofs.Common.{◌≡◌, take}
use Rattle.far_pairs.proofs.Ordering.{spelled}
use Rattle.far_pairs.proofs.bundle.Bundle.in_order.Given as goal

abbrev pub invariant-loop-pair : goal.invariant-loop-pair
invariant-loop-pair g l = l.bytes.items ≡ spelled (take l.pair-index l.pair-items)
