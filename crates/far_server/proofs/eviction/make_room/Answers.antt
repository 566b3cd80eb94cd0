use Rattle.std.proofs.Common.{true}
use Rattle.far_server.proofs.Swept.{went, then}
use Rattle.far_server.proofs.eviction.make_room.Goals as goal

pub returns-in-Wanting : goal.returns-in-Wanting
returns-in-Wanting g c = then g.S.Calls.limits true (g.S.Calls.shown c.args.me.now) (g.S.Calls.shown c.look_for_room.new.me) (g.S.Calls.shown c.evict_bucket.new.me) (went g.S.Calls.limits true (g.S.Calls.shown c.args.me.now) (g.S.Calls.shown c.look_for_room.new.me) c.in-Wanting.ensures) c.evict_bucket.ensures
