use Rattle.std.proofs.Common.{[], sym, subst}
use Rattle.resp.specs.declared.limits.Limits.{Limits}
use Rattle.request_loop.specs.Calls.{step_marks}
use Rattle.request_loop.specs.Slots.{Views, none_seen}
use Rattle.request_loop.specs.Standing.{Standing, GoesOnBy}
use Rattle.request_loop.proofs.Resuming.{begins}
use Rattle.request_player.proofs.run.serve_by_both.Goals as goal

pub serve_on-requires : goal.serve_on-requires
serve_on-requires g c =
    let d = c.args.duplex.now in
    let P : Views → Type 0 = λ v. Standing g.D.Duplex.tells (g.D.Duplex.limits d) d d v [] in
    (d, [], subst P (sym c.none.ensures) (begins g.D.Duplex.tells (g.D.Duplex.limits d) d c.requires))

pub serve_on-requires-2 : goal.serve_on-requires-2
serve_on-requires-2 g c =
    let d = c.args.duplex.now in
    let e = c.serve_on.new.duplex in
    let L = g.D.Duplex.limits d in
    let held = c.in_ok-left.left.1 in
    let P : Views → Type 0 = λ v. GoesOnBy g.D.Duplex.tells g.S.Service.does L d e c.args.one.now c.serve_on.new.service v held in
    let goes : GoesOnBy g.D.Duplex.tells g.S.Service.does L d e c.args.one.now c.serve_on.new.service none_seen held = subst P c.none.ensures c.in_ok-left.ensures.stood in
    let s = goes d [] (begins g.D.Duplex.tells L d c.requires) in
    let Q : Limits → Type 0 = λ l. Standing g.D.Duplex.tells l d e held (step_marks s.0) in
    (d, step_marks s.0, subst Q (sym c.in_ok-left.ensures.limits) s.2)
