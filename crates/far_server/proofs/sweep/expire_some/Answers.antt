use Rattle.far_server.proofs.Swept.{nothing, then}
use Rattle.far_server.proofs.sweep.expire_some.Goals as goal

pub loop-init : goal.loop-init
loop-init g c evicts = nothing g.S.Calls.limits evicts (g.S.Calls.shown c.args.me.now)

pub returns-then-hand-buckets : goal.returns-then-hand-buckets
returns-then-hand-buckets g c = c.loop.invariant

pub loop-preserved : goal.loop-preserved
loop-preserved g c evicts = then g.S.Calls.limits evicts (g.S.Calls.shown c.args.me.now) (g.S.Calls.shown c.loop.me) (g.S.Calls.shown c.expire_in-looked.new.me) (c.loop.invariant evicts) (c.expire_in-looked.ensures evicts)

pub returns : goal.returns
returns g c = c.loop.invariant
