use Rattle.far_server.proofs.Swept.{went, then}
use Rattle.far_server.proofs.sweep.expire_in.Goals as goal

pub loop-key-init : goal.loop-key-init
loop-key-init g c evicts = went g.S.Calls.limits evicts (g.S.Calls.shown c.args.me.now) (g.S.Calls.shown c.dated_in.new.me) c.in-Ok.ensures

pub returns-in-Err-expire : goal.returns-in-Err-expire
returns-in-Err-expire g c evicts = then g.S.Calls.limits evicts (g.S.Calls.shown c.args.me.now) (g.S.Calls.shown c.loop-key.me) (g.S.Calls.shown c.expire.new.me) (c.loop-key.invariant evicts) (c.in-Err-expire.ensures evicts)

pub loop-key-preserved : goal.loop-key-preserved
loop-key-preserved g c evicts = then g.S.Calls.limits evicts (g.S.Calls.shown c.args.me.now) (g.S.Calls.shown c.loop-key.me) (g.S.Calls.shown c.expire.new.me) (c.loop-key.invariant evicts) (c.in-Ok-expire.ensures evicts)

pub returns : goal.returns
returns g c = c.loop-key.invariant
