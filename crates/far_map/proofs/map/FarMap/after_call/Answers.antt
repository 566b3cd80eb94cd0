use Rattle.far_map.proofs.Losses.{loses_trans}
use Rattle.far_map.proofs.map.FarMap.after_call.Goals as goal

pub returns-clause-none_lost : goal.returns-clause-none_lost
returns-clause-none_lost g c = loses_trans _ _ _ _ _ _ c.keep_below.ensures.none_lost c.see_to_spares.ensures.none_lost
