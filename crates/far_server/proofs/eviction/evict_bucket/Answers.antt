use Rattle.std.proofs.Common.{true}
use Rattle.far_server.proofs.Swept.{went, then}
use Rattle.far_server.proofs.eviction.evict_bucket.Goals as goal

pub returns-in-Some : goal.returns-in-Some
returns-in-Some g c = then g.S.Calls.limits true (g.S.Calls.shown c.args.me.now) (g.S.Calls.shown c.find_victim.new.me) (g.S.Calls.shown c.evict_keys.new.me) (went g.S.Calls.limits true (g.S.Calls.shown c.args.me.now) (g.S.Calls.shown c.find_victim.new.me) c.in-Some.ensures.goes) c.evict_keys.ensures
