use Rattle.std.proofs.Common.{◌≡◌, subst, refl}
use Rattle.request_loop.specs.Calls.{Call}
use Rattle.far_server.specs.declared.context.ServerContext.{ServerContext}
use Rattle.far_server.specs.declared.server.Server.{Server}
use Rattle.far_server.specs.declared.server.Kept.{Kept}
use Rattle.far_server.specs.Services.{WorkerView, worker_view, Acts}
use Rattle.far_server.proofs.Pushed.{if_ok}
use Rattle.far_server.proofs.Stepping.{run_keeps, run_seen}
use Rattle.far_server.proofs.worker.serve_packets.Goals as goal

pub returns-clause-same_reference : goal.returns-clause-same_reference
returns-clause-same_reference g c =
    let X : Type 0 = Server g.row.S.Denot g.row.C.Denot g.row.R.Denot Kept g.row.S-Held.Denot in
    let L : ServerContext _ _ → X → WorkerView = λ a x. worker_view a.settings.now.password (g.S.Calls.shown x.me.now) x.kept.connections.entries in
    let D : X → Call → X → Type 0 = λ s call t. (t.me.ghost_name ≡ s.me.ghost_name) × (t.context.now ≡ s.context.now)
    × Acts g.S.Calls.limits s.context.now.settings.now.digest_keys s.context.now.settings.now.password s.context.now.settings.now.bounds (L s.context.now s) call (L s.context.now t) in
    let stood = c.requires in
    if_ok c.serve_on.result (λ left s.
    let went = s stood.0 stood.1 stood.2 in
    run_keeps {does = D} c.args.server.now c.serve_on.new.service went.0 went.1 (λ x. x.me.ghost_name) (λ x y call did. did.0)) c.serve_on.ensures.stood

pub returns-clause-went_on : goal.returns-clause-went_on
returns-clause-went_on g c =
    let X : Type 0 = Server g.row.S.Denot g.row.C.Denot g.row.R.Denot Kept g.row.S-Held.Denot in
    let L : ServerContext _ _ → X → WorkerView = λ a x. worker_view a.settings.now.password (g.S.Calls.shown x.me.now) x.kept.connections.entries in
    let D : X → Call → X → Type 0 = λ s call t. (t.me.ghost_name ≡ s.me.ghost_name) × (t.context.now ≡ s.context.now)
    × Acts g.S.Calls.limits s.context.now.settings.now.digest_keys s.context.now.settings.now.password s.context.now.settings.now.bounds (L s.context.now s) call (L s.context.now t) in
    let context = c.args.server.now.context.now in
    let password = context.settings.now.password in
    let bounds = context.settings.now.bounds in
    if_ok c.serve_on.result (λ left s start past stood.
    let went = s start past stood in (
      went.0,
      run_seen {does = D} c.args.server.now c.serve_on.new.service went.0 went.1 (L context) (Acts g.S.Calls.limits context.settings.now.digest_keys password bounds) (λ x. x.context.now) context
          (λ x y call did. did.1)
          (λ x y call is did. subst (λ (a : ServerContext _ _). Acts g.S.Calls.limits a.settings.now.digest_keys a.settings.now.password a.settings.now.bounds (L a x) call (L a y)) is did.2)
          refl,
      went.2,
    )) c.serve_on.ensures.stood
