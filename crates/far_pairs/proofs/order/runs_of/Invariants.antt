use Rattle.std.proofs.Common.{◌≡◌, take}
use Rattle.far_pairs.proofs.order.runs_of.Given as goal

abbrev pub invariant-loop-list : goal.invariant-loop-list
invariant-loop-list l = l.runs.items ≡ take l.list-index l.lists
