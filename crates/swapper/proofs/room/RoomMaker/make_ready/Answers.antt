use Rattle.std.proofs.Common.{inr}
use Rattle.swapper.proofs.room.RoomMaker.make_ready.Goals as goal

pub returns-clause-limbo : goal.returns-clause-limbo
returns-clause-limbo g c = inr (c.make_room.result, c.make_room.ensures.limbo)
