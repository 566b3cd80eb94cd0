use Rattle.std.proofs.Common.{◌≡◌, subst, refl}
use Rattle.request_loop.specs.Calls.{Call}
use Rattle.farcalls.specs.declared.context.SessionContext.{SessionContext}
use Rattle.farcalls.specs.declared.service.SessionService.{SessionService}
use Rattle.farcalls.specs.declared.service.Kept.{Kept}
use Rattle.farcalls.specs.Sessions.{Session}
use Rattle.farcalls.specs.Services.{Acts}
use Rattle.farcalls.proofs.Pushed.{if_ok}
use Rattle.farcalls.proofs.Stepping.{run_keeps, run_seen}
use Rattle.farcalls.proofs.worker.serve_packets.Goals as goal

pub returns-clause-same_reference : goal.returns-clause-same_reference
returns-clause-same_reference g c =
    let X : Type 0 = SessionService g.row.S.Denot g.row.R.Denot Kept g.row.S-Held.Denot in
    let L : X → Session = λ x. g.S.Calls.shown x.me.now in
    let D : X → Call → X → Type 0 = λ s call t. (t.me.ghost_name ≡ s.me.ghost_name) × (t.context.now ≡ s.context.now)
    × Acts g.S.Calls.limits s.context.now.settings.now.is_far (L s) call (L t) in
    let stood = c.requires in
    if_ok c.serve_on.result (λ left s.
    let went = s stood.0 stood.1 stood.2 in
    run_keeps {does = D} c.args.service.now c.serve_on.new.service went.0 went.1 (λ x. x.me.ghost_name) (λ x y call did. did.0)) c.serve_on.ensures.stood

pub returns-clause-went_on : goal.returns-clause-went_on
returns-clause-went_on g c =
    let X : Type 0 = SessionService g.row.S.Denot g.row.R.Denot Kept g.row.S-Held.Denot in
    let L : X → Session = λ x. g.S.Calls.shown x.me.now in
    let D : X → Call → X → Type 0 = λ s call t. (t.me.ghost_name ≡ s.me.ghost_name) × (t.context.now ≡ s.context.now)
    × Acts g.S.Calls.limits s.context.now.settings.now.is_far (L s) call (L t) in
    let context = c.args.service.now.context.now in
    if_ok c.serve_on.result (λ left s start past stood.
    let went = s start past stood in (
      went.0,
      run_seen {does = D} c.args.service.now c.serve_on.new.service went.0 went.1 L (Acts g.S.Calls.limits context.settings.now.is_far) (λ x. x.context.now) context
          (λ x y call did. did.1)
          (λ x y call is did. subst (λ (a : SessionContext _). Acts g.S.Calls.limits a.settings.now.is_far (L x) call (L y)) is did.2)
          refl,
      went.2,
    )) c.serve_on.ensures.stood
