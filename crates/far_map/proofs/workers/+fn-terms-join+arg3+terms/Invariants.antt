use Rattle.std.proofs.Common.{length}
use Rattle.far_map.proofs.workers.+fn-terms-join+arg3+terms.Given as goal

abbrev pub decreases-join+arg3 : goal.decreases-join+arg3
decreases-join+arg3 g l = length l.all_pending.items

abbrev pub decreases-terms : goal.decreases-terms
decreases-terms g l = length l.all_pending.items
