use Rattle.std.proofs.Common.{take}
use Rattle.far_pairs.specs.Bundles.{all_of}
use Rattle.far_pairs.specs.Ranges.{AreCut}
use Rattle.far_pairs.proofs.ranges.cut_all.Given as goal

abbrev pub invariant-loop-run : goal.invariant-loop-run
invariant-loop-run l = AreCut l.key (all_of (take l.run-index l.runs)) (all_of l.low.items) (all_of l.high.items)
