use Rattle.far_map.proofs.Losses.{handed_on}
use Rattle.far_map.proofs.map.FarMap.settle.Goals as goal

pub returns-clause-none_lost : goal.returns-clause-none_lost
returns-clause-none_lost g c = handed_on c.settle.result _ _ _ _ c.settle.ensures.rest c.settle.ensures.went
