use Rattle.hash_table.proofs.Fronts.{goes_trans}
use Rattle.far_map.proofs.Losses.{loses_trans}
use Rattle.far_map.proofs.room.wait_for_frame.Goals as goal

pub loop-preserved : goal.loop-preserved
loop-preserved g c = (goes_trans c.loop.invariant.0 c.empty_frame.ensures.pass, loses_trans _ _ _ _ _ _ c.loop.invariant.1 c.empty_frame.ensures.none_lost)
