use Rattle.std.proofs.Common.{◌≡◌, ◌++◌, take}
use Rattle.far_pairs.proofs.run.Run.lend.Given as goal

abbrev pub invariant-loop-pair : goal.invariant-loop-pair
invariant-loop-pair l = l.lent.items ≡ l.fn.lent.items ++ take l.pair-index l.self
