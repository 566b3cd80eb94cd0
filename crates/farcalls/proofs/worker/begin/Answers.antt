use Rattle.std.proofs.Common.{◌≡◌, ◌∙◌}
use Rattle.farcalls.specs.Left.{LeftView}
use Rattle.farcalls.specs.declared.states.SessionState.TheVariants as state
use Rattle.farcalls.proofs.Terms.{new_stood, fresh_begins, serves_so}
use Rattle.farcalls.specs.Serving.{request_limits}
use Rattle.farcalls.proofs.worker.begin.Goals as goal

pub invariant_of-serve : goal.invariant_of-serve
invariant_of-serve g c = new_stood g.P.Input.Read.remaining g.P.Output.Write.contents c.new-wire.result c.none-holds.result c.none-holds.ensures c.new-wire.ensures.nothing

pub returns : goal.returns
returns g c =
    let remaining = g.P.Input.Read.remaining in
    let contents = g.P.Output.Write.contents in
    let Opens = g.P.Pipes.opens c.args.pipes.now c.args.context.now.session in
    let is_far = c.args.context.now.settings.now.is_far in
    let left : LeftView _ _ = record { wire = c.new-wire.result; views = c.none-holds.result } in
    serves_so remaining contents Opens g.S.Calls.limits is_far (g.S.Calls.shown c.args.me.now) (g.S.Calls.shown c.serve.new.me) state.Fresh left
    (fresh_begins remaining contents Opens request_limits left c.in-Ok.both.0 c.in-Ok.both.1 c.in-Ok.ensures c.new-wire.ensures.parts (c.new-wire.ensures.limits ∙ c.request_limits.ensures) c.none-holds.ensures c.new-wire.ensures.nothing)
    c.serve.result c.serve.ensures
