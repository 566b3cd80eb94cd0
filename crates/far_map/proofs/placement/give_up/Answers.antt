use Rattle.hash_table.proofs.Fronts.{goes_trans}
use Rattle.far_map.proofs.Losses.{loses_trans, stay}
use Rattle.far_map.proofs.placement.give_up.Goals as goal

pub returns-in-Err-make_room-clause-none_lost : goal.returns-in-Err-make_room-clause-none_lost
returns-in-Err-make_room-clause-none_lost g c = loses_trans _ _ _ _ _ _ c.loop.invariant.1 (loses_trans _ _ _ _ _ _ (stay _ _ _ c.turn.ensures.limbo) c.make_room.ensures.none_lost)

pub loop-preserved : goal.loop-preserved
loop-preserved g c = (
  goes_trans c.loop.invariant.0 (goes_trans c.turn.ensures.goes c.make_room.ensures.pass),
  loses_trans _ _ _ _ _ _ c.loop.invariant.1 (loses_trans _ _ _ _ _ _ (stay _ _ _ c.turn.ensures.limbo) c.make_room.ensures.none_lost),
)
