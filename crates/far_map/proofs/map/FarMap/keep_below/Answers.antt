use Rattle.hash_table.proofs.Fronts.{goes_trans}
use Rattle.far_map.proofs.Losses.{loses_trans}
use Rattle.far_map.proofs.map.FarMap.keep_below.Goals as goal

pub loop-preserved : goal.loop-preserved
loop-preserved g c = (goes_trans c.loop.invariant.0 c.empty_above.ensures.goes, loses_trans _ _ _ _ _ _ c.loop.invariant.1 c.empty_above.ensures.none_lost)
