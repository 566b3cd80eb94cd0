use Rattle.far_map.proofs.Losses.{loses_trans, room_left}
use Rattle.far_map.proofs.map.FarMap.make_own_room.Goals as goal

pub returns-clause-none_lost : goal.returns-clause-none_lost
returns-clause-none_lost g c = loses_trans _ _ _ _ _ _ c.settle.ensures.none_lost (room_left _ _ _ c.make_room.result c.make_room.ensures.limbo)
