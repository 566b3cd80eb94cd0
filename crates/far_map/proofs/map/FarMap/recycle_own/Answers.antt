use Rattle.far_map.proofs.Losses.{loses_trans, recycled}
use Rattle.far_map.proofs.map.FarMap.recycle_own.Goals as goal

pub returns-clause-none_lost : goal.returns-clause-none_lost
returns-clause-none_lost g c = loses_trans _ _ _ _ _ _ (recycled _ _ _ c.reclaim_oldest.ensures.limbo) c.hand_over.ensures.none_lost
