use Rattle.std.proofs.Common.{◌+◌, ◌*◌}
use Rattle.far_pairs.proofs.ranges.+ranges.Given as goal

abbrev pub decreases-join+arg3 : goal.decreases-join+arg3
decreases-join+arg3 g l = 2 * l.left + 2

abbrev pub decreases-in_ranges : goal.decreases-in_ranges
decreases-in_ranges g l = 2 * l.most + 1
