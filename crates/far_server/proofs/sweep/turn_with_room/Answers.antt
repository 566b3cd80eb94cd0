use Rattle.std.proofs.Common.{true}
use Rattle.far_server.proofs.Swept.{then}
use Rattle.far_server.proofs.sweep.turn_with_room.Goals as goal

pub returns : goal.returns
returns g c = then g.S.Calls.limits true (g.S.Calls.shown c.args.me.now) (g.S.Calls.shown c.make_room.new.me) (g.S.Calls.shown c.expire_next.new.me) c.make_room.ensures (c.expire_next.ensures true)
