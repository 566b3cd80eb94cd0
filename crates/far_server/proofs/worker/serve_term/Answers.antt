use Rattle.std.proofs.Common.{refl, sym, subst}
use Rattle.far_server.specs.Serving.{ServesOn}
use Rattle.far_server.specs.declared.states.WorkerState.{WorkerState}
use Rattle.far_server.specs.declared.states.WorkerState.TheVariants as state
use Rattle.far_server.proofs.Terms.{left_begins, serves_so, stays_over}
use Rattle.far_server.proofs.worker.serve_term.Goals as goal

pub returns-in-Left : goal.returns-in-Left
returns-in-Left g c =
    let remaining = g.P.Input.Read.remaining in
    let contents = g.P.Output.Write.contents in
    let Opens = g.P.Pipes.opens c.args.pipes.now c.args.context.now.worker in
    let settings = c.args.context.now.settings.now in
    let old = g.S.Calls.shown c.args.me.now in
    let new = g.S.Calls.shown c.serve-after.new.me in
    let left = c.in-Left.left in
    let S : WorkerState _ _ → Type 0 = λ s. ServesOn remaining contents Opens g.S.Calls.limits settings old new s c.serve-after.result in
    subst S (sym c.in-Left.is) (serves_so remaining contents Opens g.S.Calls.limits settings old new (state.Left left) left (left_begins remaining contents Opens settings.requests left) refl c.serve-after.result c.serve-after.ensures)

pub returns-in-Ended : goal.returns-in-Ended
returns-in-Ended g c =
    let remaining = g.P.Input.Read.remaining in
    let contents = g.P.Output.Write.contents in
    let Opens = g.P.Pipes.opens c.args.pipes.now c.args.context.now.worker in
    let settings = c.args.context.now.settings.now in
    let old = g.S.Calls.shown c.args.me.now in
    let S : WorkerState _ _ → Type 0 = λ s. ServesOn remaining contents Opens g.S.Calls.limits settings old old s (state.Ended c.in-Ended.end) in
    subst S (sym c.in-Ended.is) (stays_over remaining contents Opens g.S.Calls.limits settings old c.in-Ended.end)
