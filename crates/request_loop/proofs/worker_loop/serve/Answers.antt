use Rattle.std.proofs.Common.{List, [], sym, subst}
use Rattle.request_loop.specs.Marks.{Mark}
use Rattle.request_loop.specs.Calls.{Exchange}
use Rattle.request_loop.specs.Slots.{Views}
use Rattle.request_loop.specs.Standing.{Standing, GoesOnBy}
use Rattle.request_loop.specs.Turns.{Faulty}
use Rattle.request_loop.proofs.Known.{on_err}
use Rattle.request_loop.proofs.Resuming.{begins, served, faulty}
use Rattle.request_loop.proofs.worker_loop.serve.Goals as goal

pub serve_on-requires : goal.serve_on-requires
serve_on-requires g c =
    let P : Views → Type 0 = λ v. Standing g.D.Duplex.tells (g.D.Duplex.limits c.args.duplex.now) c.args.duplex.now c.args.duplex.now v [] in
    (c.args.duplex.now, [], subst P (sym c.none.ensures) (begins g.D.Duplex.tells (g.D.Duplex.limits c.args.duplex.now) c.args.duplex.now c.requires))

pub returns-clause-served : goal.returns-clause-served
returns-clause-served g c =
    let d = c.args.duplex.now in
    let P : Views → Type 0 = λ v. GoesOnBy g.D.Duplex.tells g.S.Service.does (g.D.Duplex.limits d) d c.serve_on.new.duplex c.args.service.now c.serve_on.new.service v c.in_ok-_left._left.1 in
    let s = served g.D.Duplex.tells g.S.Service.does (g.D.Duplex.limits d) d c.serve_on.new.duplex c.args.service.now c.serve_on.new.service c.in_ok-_left._left.1 c.requires (subst P c.none.ensures c.in_ok-_left.ensures.stood) in
    (s.0, s.1, s.2, s.3, c.in_ok-_left.ensures.whole, c.in_ok-_left.ensures.sent)

pub returns-in_err-_left-clause-fault : goal.returns-in_err-_left-clause-fault
returns-in_err-_left-clause-fault g c =
    let d = c.args.duplex.now in
    let L = g.D.Duplex.limits d in
    let F = λ (v : Views). (start : g.row.D.Denot) (past : List (Mark Exchange)) → Standing g.D.Duplex.tells L start d v past → Faulty g.D.Duplex.tells g.S.Service.does L past start c.serve_on.new.duplex c.args.service.now in
    let f = subst F c.none.ensures c.in_err-_left.ensures.fault in
    on_err _ _ (faulty g.D.Duplex.tells g.S.Service.does L d c.serve_on.new.duplex c.args.service.now (f d [] (begins g.D.Duplex.tells L d c.requires)))
