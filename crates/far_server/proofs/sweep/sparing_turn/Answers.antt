use Rattle.far_server.proofs.Swept.{nothing}
use Rattle.far_server.proofs.sweep.sparing_turn.Goals as goal

pub returns-then-spares : goal.returns-then-spares
returns-then-spares g c = nothing g.S.Calls.limits c.args.context.now.settings.now.options.evicts (g.S.Calls.shown c.args.me.now)
