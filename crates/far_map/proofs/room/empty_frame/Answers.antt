use Rattle.far_map.proofs.Losses.{loses_trans}
use Rattle.far_map.proofs.room.empty_frame.Goals as goal

pub returns-in-Err-clause-none_lost : goal.returns-in-Err-clause-none_lost
returns-in-Err-clause-none_lost g c = loses_trans _ _ _ _ _ _ c.empty_frames.ensures.none_lost c.free_spares.ensures.none_lost
