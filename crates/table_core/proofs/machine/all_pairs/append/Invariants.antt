use Rattle.std.proofs.Common.{◌≡◌, ◌++◌, take, map}
use Rattle.table_core.proofs.machine.all_pairs.append.Given as goal

abbrev pub invariant-loop-pair : goal.invariant-loop-pair
invariant-loop-pair g l = map (λ r. r.now) l.pairs.items ≡ map (λ r. r.now) l.fn.pairs.items ++ take l.pair-index l.more
