use Rattle.far_server.proofs.Swept.{nothing, then}
use Rattle.far_server.proofs.sweep.sweep.Goals as goal

pub loop-init : goal.loop-init
loop-init g c = nothing g.S.Calls.limits c.args.context.now.settings.now.options.evicts (g.S.Calls.shown c.args.me.now)

pub loop-preserved-then-not-goes_on : goal.loop-preserved-then-not-goes_on
loop-preserved-then-not-goes_on g c = then g.S.Calls.limits c.args.context.now.settings.now.options.evicts (g.S.Calls.shown c.args.me.now) (g.S.Calls.shown c.loop.me) (g.S.Calls.shown c.sparing_turn-goes_on.new.me) c.loop.invariant c.sparing_turn-goes_on.ensures

pub loop-preserved : goal.loop-preserved
loop-preserved g c = then g.S.Calls.limits c.args.context.now.settings.now.options.evicts (g.S.Calls.shown c.args.me.now) (g.S.Calls.shown c.loop.me) (g.S.Calls.shown c.sparing_turn-goes_on.new.me) c.loop.invariant c.sparing_turn-goes_on.ensures

pub returns : goal.returns
returns g c = c.loop.invariant
