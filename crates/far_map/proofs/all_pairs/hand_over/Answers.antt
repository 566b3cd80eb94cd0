use Rattle.std.proofs.Common.{of_calls}
use Rattle.far_map.proofs.Visits.{folds_more}
use Rattle.far_map.proofs.all_pairs.hand_over.Goals as goal

pub loop-key-preserved : goal.loop-key-preserved
loop-key-preserved g c = (search of_calls, folds_more _ _ _ _ (c.in-Some.key, c.in-Some.value) c.visit.new.self c.loop-key.invariant.1 c.visit.ensures)
