use Rattle.std.proofs.Common.{sym, subst}
use Rattle.farcalls.specs.Serving.{request_limits, ServesOn}
use Rattle.farcalls.specs.declared.states.SessionState.{SessionState}
use Rattle.farcalls.specs.declared.states.SessionState.TheVariants as state
use Rattle.farcalls.proofs.Terms.{left_begins, serves_so, stays_over}
use Rattle.farcalls.proofs.worker.serve_term.Goals as goal

pub returns-in-Left : goal.returns-in-Left
returns-in-Left g c =
    let remaining = g.P.Input.Read.remaining in
    let contents = g.P.Output.Write.contents in
    let Opens = g.P.Pipes.opens c.args.pipes.now c.args.context.now.session in
    let is_far = c.args.context.now.settings.now.is_far in
    let old = g.S.Calls.shown c.args.me.now in
    let new = g.S.Calls.shown c.serve.new.me in
    let left = c.in-Left.left in
    let S : SessionState _ _ → Type 0 = λ s. ServesOn remaining contents Opens g.S.Calls.limits is_far old new s c.serve.result in
    subst S (sym c.in-Left.is) (serves_so remaining contents Opens g.S.Calls.limits is_far old new (state.Left left) left (left_begins remaining contents Opens request_limits left) c.serve.result c.serve.ensures)

pub returns-in-Ended : goal.returns-in-Ended
returns-in-Ended g c =
    let remaining = g.P.Input.Read.remaining in
    let contents = g.P.Output.Write.contents in
    let Opens = g.P.Pipes.opens c.args.pipes.now c.args.context.now.session in
    let is_far = c.args.context.now.settings.now.is_far in
    let old = g.S.Calls.shown c.args.me.now in
    let S : SessionState _ _ → Type 0 = λ s. ServesOn remaining contents Opens g.S.Calls.limits is_far old old s (state.Ended c.in-Ended.end) in
    subst S (sym c.in-Ended.is) (stays_over remaining contents Opens g.S.Calls.limits is_far old c.in-Ended.end)
