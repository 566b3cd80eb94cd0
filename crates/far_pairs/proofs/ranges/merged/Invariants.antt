use Rattle.std.proofs.Common.{◌≡◌, take}
use Rattle.far_pairs.specs.Bundles.{all_of}
use Rattle.far_pairs.proofs.ranges.merged.Given as goal

abbrev pub invariant-loop-run : goal.invariant-loop-run
invariant-loop-run l = l.pairs.items ≡ all_of (take l.run-index l.runs)
