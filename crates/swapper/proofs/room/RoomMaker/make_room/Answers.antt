use Rattle.swapper.proofs.Rooms.{none_given}
use Rattle.swapper.proofs.room.RoomMaker.make_room.Goals as goal

pub returns-in-Ok-false-clause-limbo : goal.returns-in-Ok-false-clause-limbo
returns-in-Ok-false-clause-limbo g c = none_given g.K.FarObject.enc g.V.FarObject.enc g.J.Naming.limits c.args.table.now.format c.args.caller.now c.give_up.new.caller _ _ (rw c.in-Ok-false.field-0-test at c.in-Ok-false.ensures.given)

pub returns-clause-limbo : goal.returns-clause-limbo
returns-clause-limbo g c = (c.give_up.new.caller.limbo, c.in-Ok-true.ensures.given.limbo, c.reclaim_oldest.ensures.limbo)
