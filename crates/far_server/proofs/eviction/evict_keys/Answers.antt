use Rattle.far_server.proofs.Swept.{evicted}
use Rattle.far_server.proofs.eviction.evict_keys.Goals as goal

pub returns : goal.returns
returns g c = evicted g.S.Calls.limits c.args.bucket (g.S.Calls.shown c.args.me.now) (g.S.Calls.shown c.empty_bucket.new.me) c.empty_bucket.result c.empty_bucket.ensures
