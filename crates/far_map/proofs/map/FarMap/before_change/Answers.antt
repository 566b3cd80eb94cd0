use Rattle.far_map.proofs.Losses.{ready_left}
use Rattle.far_map.proofs.map.FarMap.before_change.Goals as goal

pub returns-clause-none_lost : goal.returns-clause-none_lost
returns-clause-none_lost g c = ready_left _ _ _ c.make_ready.ensures.limbo
