use Rattle.std.proofs.Common.{List, ap}
use Rattle.far_server.specs.Services.{worker_view}
use Rattle.far_server.specs.Left.{LeftView}
use Rattle.far_server.specs.declared.states.WorkerState.TheVariants as state
use Rattle.far_server.proofs.Terms.{new_stood, fresh_begins, serves_so}
use Rattle.far_server.proofs.worker.begin.Goals as goal

pub invariant_of-serve : goal.invariant_of-serve
invariant_of-serve g c = new_stood g.P.Input.Read.remaining g.P.Output.Write.contents c.new-wire.result c.none-holds.result c.none-holds.ensures c.new-wire.ensures.nothing

pub returns : goal.returns
returns g c =
    let remaining = g.P.Input.Read.remaining in
    let contents = g.P.Output.Write.contents in
    let Opens = g.P.Pipes.opens c.args.pipes.now c.args.context.now.worker in
    let settings = c.args.context.now.settings.now in
    let old = g.S.Calls.shown c.args.me.now in
    let left : LeftView _ _ = record { wire = c.new-wire.result; views = c.none-holds.result; connections = c.new-kept.result.connections.entries } in
    serves_so remaining contents Opens g.S.Calls.limits settings old (g.S.Calls.shown c.serve.new.me) state.Fresh left
    (fresh_begins remaining contents Opens settings.requests left c.in-Ok.both.0 c.in-Ok.both.1 c.in-Ok.ensures c.new-wire.ensures.parts c.new-wire.ensures.limits c.none-holds.ensures c.new-wire.ensures.nothing)
    (λ n. ap (λ (cs : List _). (worker_view settings.password old cs).connections n) c.new-kept.ensures) c.serve.result c.serve.ensures
