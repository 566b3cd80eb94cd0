use Rattle.std.proofs.Common.{◌≡◌, refl, sym, subst, ◌∙◌}
use Rattle.request_loop.specs.Packets.{WireTells}
use Rattle.request_loop.specs.Standing.{GoesOnBy}
use Rattle.farcalls.specs.declared.context.SessionContext.{SessionContext}
use Rattle.farcalls.specs.Services.{Acts}
use Rattle.farcalls.specs.Left.{LeftView}
use Rattle.farcalls.specs.declared.session_end.SessionEnd.TheVariants as session_end
use Rattle.farcalls.specs.declared.states.SessionState.TheVariants as state
use Rattle.farcalls.specs.Serving.{GoesOn}
use Rattle.farcalls.proofs.Terms.{still_stood, leaves_so, ends_so}
use Rattle.farcalls.proofs.worker.serve.Goals as goal

pub invariant_of-result : goal.invariant_of-result
invariant_of-result g c =
    let made = c.new-service.result in
    let done = c.serve_packets.new.service in
    still_stood g.I.Read.remaining g.O.Write.contents (Acts g.S.Calls.limits made.context.now.settings.now.is_far) c.left.inside.wire c.serve_packets.new.wire
    (g.S.Calls.shown made.me.now) (g.S.Calls.shown done.me.now)
    c.left.inside.holds _ c.in-Ok.ensures.limits c.left.invariant c.in-Ok.ensures.went_on

-- the service's steps as the session's
pub returns-in-Wake : goal.returns-in-Wake
returns-in-Wake g c =
    let made = c.new-service.result in
    let done = c.serve_packets.new.service in
    let is_far = c.args.context.now.settings.now.is_far in
    let old = g.S.Calls.shown c.args.me.now in
    let new = g.S.Calls.shown c.me-1.given.0 in
    let inside = c.left.inside in
    let wire = c.serve_packets.new.wire in
    let last : c.me-1.given.0 ≡ c.finish-kept.new.self.0 = c.me-1.given.1 (sym (c.in-Ok.ensures.same_reference ∙ c.new-service.ensures.same_reference)) in
    let T = WireTells g.I.Read.remaining g.O.Write.contents in
    let A : SessionContext _ → Type 0 = λ a. GoesOnBy T (Acts g.S.Calls.limits a.settings.now.is_far) inside.wire.limits inside.wire wire (g.S.Calls.shown made.me.now) (g.S.Calls.shown done.me.now) inside.holds c.in-Ok.holds in
    let M : g.row.S.Denot → Type 0 = λ m. GoesOnBy T (Acts g.S.Calls.limits is_far) inside.wire.limits inside.wire wire (g.S.Calls.shown m) (g.S.Calls.shown done.me.now) inside.holds c.in-Ok.holds in
    let E : g.row.S.Denot → Type 0 = λ m. GoesOnBy T (Acts g.S.Calls.limits is_far) inside.wire.limits inside.wire wire old (g.S.Calls.shown m) inside.holds c.in-Ok.holds in
    let goes = subst E (sym (last ∙ c.finish-kept.ensures.session)) (subst M c.new-service.ensures.session (subst A c.new-service.ensures.context c.in-Ok.ensures.went_on)) in
    let left : LeftView _ _ = record { wire = inside.wire; views = inside.holds } in
    let after : LeftView _ _ = record { wire = wire; views = c.in-Ok.holds } in
    let L : LeftView _ _ → Type 0 = λ v. GoesOn g.I.Read.remaining g.O.Write.contents g.S.Calls.limits is_far old new v (state.Left after) in
    subst L c.left.view_is (leaves_so g.I.Read.remaining g.O.Write.contents g.S.Calls.limits is_far old new left wire c.in-Ok.holds goes after refl refl c.in-Ok.ensures.limits)

pub returns-in-End : goal.returns-in-End
returns-in-End g c =
    let made = c.new-service.result in
    let done = c.serve_packets.new.service in
    let is_far = c.args.context.now.settings.now.is_far in
    let old = g.S.Calls.shown c.args.me.now in
    let new = g.S.Calls.shown c.me-1.given.0 in
    let inside = c.left.inside in
    let wire = c.serve_packets.new.wire in
    let last : c.me-1.given.0 ≡ c.finish-kept.new.self.0 = c.me-1.given.1 (sym (c.in-Ok.ensures.same_reference ∙ c.new-service.ensures.same_reference)) in
    let T = WireTells g.I.Read.remaining g.O.Write.contents in
    let A : SessionContext _ → Type 0 = λ a. GoesOnBy T (Acts g.S.Calls.limits a.settings.now.is_far) inside.wire.limits inside.wire wire (g.S.Calls.shown made.me.now) (g.S.Calls.shown done.me.now) inside.holds c.in-Ok.holds in
    let M : g.row.S.Denot → Type 0 = λ m. GoesOnBy T (Acts g.S.Calls.limits is_far) inside.wire.limits inside.wire wire (g.S.Calls.shown m) (g.S.Calls.shown done.me.now) inside.holds c.in-Ok.holds in
    let E : g.row.S.Denot → Type 0 = λ m. GoesOnBy T (Acts g.S.Calls.limits is_far) inside.wire.limits inside.wire wire old (g.S.Calls.shown m) inside.holds c.in-Ok.holds in
    let goes = subst E (sym (last ∙ c.finish-kept.ensures.session)) (subst M c.new-service.ensures.session (subst A c.new-service.ensures.context c.in-Ok.ensures.went_on)) in
    let left : LeftView _ _ = record { wire = inside.wire; views = inside.holds } in
    let L : LeftView _ _ → Type 0 = λ v. GoesOn g.I.Read.remaining g.O.Write.contents g.S.Calls.limits is_far old new v (state.Ended (session_end.Served c.into_parts-input.result.0 c.into_parts-input.result.1)) in
    subst L c.left.view_is (ends_so g.I.Read.remaining g.O.Write.contents g.S.Calls.limits is_far old new left wire c.in-Ok.holds goes
    c.into_parts-input.result.0 c.into_parts-input.result.1 c.in-Ok.ensures.whole (c.in-Ok.ensures.ended c.in-End.is) c.into_parts-input.ensures.0 c.into_parts-input.ensures.1)
