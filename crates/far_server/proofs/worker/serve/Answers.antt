use Rattle.std.proofs.Common.{◌≡◌, ℕ, List, Ok, refl, sym, ap, subst, ◌∙◌}
use Rattle.request_loop.specs.Packets.{WireTells}
use Rattle.request_loop.specs.Standing.{GoesOnBy}
use Rattle.far_server.specs.declared.context.ServerContext.{ServerContext}
use Rattle.far_server.specs.declared.connection.Connection.{Connection}
use Rattle.far_server.specs.Services.{WorkerView, worker_view, Acts}
use Rattle.far_server.specs.Left.{LeftView}
use Rattle.far_server.specs.declared.worker_end.WorkerEnd.TheVariants as worker_end
use Rattle.far_server.specs.declared.states.WorkerState.TheVariants as state
use Rattle.far_server.specs.Serving.{GoesOn}
use Rattle.far_server.proofs.Terms.{still_stood, leaves_so, ends_so}
use Rattle.far_server.proofs.worker.serve.Goals as goal

pub invariant_of-result : goal.invariant_of-result
invariant_of-result g c =
    let made = c.new-server.result in
    let done = c.serve_packets.new.server in
    let password = made.context.now.settings.now.password in
    still_stood g.I.Read.remaining g.O.Write.contents (Acts g.S.Calls.limits made.context.now.settings.now.digest_keys password made.context.now.settings.now.bounds) c.left.inside.wire c.serve_packets.new.wire
    (worker_view password (g.S.Calls.shown made.me.now) made.kept.connections.entries) (worker_view password (g.S.Calls.shown done.me.now) done.kept.connections.entries)
    c.left.inside.holds _ c.in-Ok.ensures.limits c.left.invariant c.in-Ok.ensures.went_on

-- the server's steps as a worker's
pub returns-in-Wake : goal.returns-in-Wake
returns-in-Wake g c =
    let made = c.new-server.result in
    let done = c.serve_packets.new.server in
    let context = c.args.context.now in
    let password = context.settings.now.password in
    let bounds = context.settings.now.bounds in
    let digest = context.settings.now.digest_keys in
    let old = g.S.Calls.shown c.args.me.now in
    let inside = c.left.inside in
    let wire = c.serve_packets.new.wire in
    let last : c.me-1.given.0 ≡ c.finish-kept.new.self.0 = c.me-1.given.1 (sym (c.in-Ok.ensures.same_reference ∙ c.new-server.ensures.same_reference)) in
    let y : WorkerView = worker_view password (g.S.Calls.shown done.me.now) done.kept.connections.entries in
    let T = WireTells g.I.Read.remaining g.O.Write.contents in
    let A : ServerContext _ _ → Type 0 = λ a. GoesOnBy T (Acts g.S.Calls.limits a.settings.now.digest_keys a.settings.now.password a.settings.now.bounds) inside.wire.limits inside.wire wire
    (worker_view a.settings.now.password (g.S.Calls.shown made.me.now) made.kept.connections.entries) (worker_view a.settings.now.password (g.S.Calls.shown done.me.now) done.kept.connections.entries) inside.holds c.in-Ok.holds in
    let M : g.row.S.Denot → Type 0 = λ m. GoesOnBy T (Acts g.S.Calls.limits digest password bounds) inside.wire.limits inside.wire wire (worker_view password (g.S.Calls.shown m) made.kept.connections.entries) y inside.holds c.in-Ok.holds in
    let K : List (ℕ × Connection) → Type 0 = λ cs. GoesOnBy T (Acts g.S.Calls.limits digest password bounds) inside.wire.limits inside.wire wire (worker_view password old cs) y inside.holds c.in-Ok.holds in
    let goes = subst K c.new-server.ensures.connections (subst M c.new-server.ensures.session (subst A c.new-server.ensures.context c.in-Ok.ensures.went_on)) in
    let left : LeftView _ _ = record { wire = inside.wire; views = inside.holds; connections = inside.kept.connections.entries } in
    let after : LeftView _ _ = record { wire = wire; views = c.in-Ok.holds; connections = c.finish-kept.result.connections.entries } in
    let L : LeftView _ _ → Type 0 = λ v. GoesOn g.I.Read.remaining g.O.Write.contents g.S.Calls.limits digest password bounds old (g.S.Calls.shown c.me-1.given.0) v (state.Left after) in
    subst L c.left.view_is (leaves_so g.I.Read.remaining g.O.Write.contents g.S.Calls.limits digest password bounds old (g.S.Calls.shown c.me-1.given.0) left wire c.in-Ok.holds y (ap g.S.Calls.shown (sym (last ∙ c.finish-kept.ensures.session))) goes
    after refl refl (ap (λ k. worker_view password (g.S.Calls.shown done.me.now) k.connections.entries) (sym c.finish-kept.ensures.kept)) c.in-Ok.ensures.limits)

pub returns-in-End : goal.returns-in-End
returns-in-End g c =
    let made = c.new-server.result in
    let done = c.serve_packets.new.server in
    let context = c.args.context.now in
    let password = context.settings.now.password in
    let bounds = context.settings.now.bounds in
    let digest = context.settings.now.digest_keys in
    let old = g.S.Calls.shown c.args.me.now in
    let inside = c.left.inside in
    let wire = c.serve_packets.new.wire in
    let last : c.me-1.given.0 ≡ c.finish-kept.new.self.0 = c.me-1.given.1 (sym (c.in-Ok.ensures.same_reference ∙ c.new-server.ensures.same_reference)) in
    let y : WorkerView = worker_view password (g.S.Calls.shown done.me.now) done.kept.connections.entries in
    let T = WireTells g.I.Read.remaining g.O.Write.contents in
    let A : ServerContext _ _ → Type 0 = λ a. GoesOnBy T (Acts g.S.Calls.limits a.settings.now.digest_keys a.settings.now.password a.settings.now.bounds) inside.wire.limits inside.wire wire
    (worker_view a.settings.now.password (g.S.Calls.shown made.me.now) made.kept.connections.entries) (worker_view a.settings.now.password (g.S.Calls.shown done.me.now) done.kept.connections.entries) inside.holds c.in-Ok.holds in
    let M : g.row.S.Denot → Type 0 = λ m. GoesOnBy T (Acts g.S.Calls.limits digest password bounds) inside.wire.limits inside.wire wire (worker_view password (g.S.Calls.shown m) made.kept.connections.entries) y inside.holds c.in-Ok.holds in
    let K : List (ℕ × Connection) → Type 0 = λ cs. GoesOnBy T (Acts g.S.Calls.limits digest password bounds) inside.wire.limits inside.wire wire (worker_view password old cs) y inside.holds c.in-Ok.holds in
    let goes = subst K c.new-server.ensures.connections (subst M c.new-server.ensures.session (subst A c.new-server.ensures.context c.in-Ok.ensures.went_on)) in
    let left : LeftView _ _ = record { wire = inside.wire; views = inside.holds; connections = inside.kept.connections.entries } in
    let L : LeftView _ _ → Type 0 = λ v. GoesOn g.I.Read.remaining g.O.Write.contents g.S.Calls.limits digest password bounds old (g.S.Calls.shown c.me-1.given.0) v (state.Ended (worker_end.Served (Ok c.into_parts.result))) in
    subst L c.left.view_is (ends_so g.I.Read.remaining g.O.Write.contents g.S.Calls.limits digest password bounds old (g.S.Calls.shown c.me-1.given.0) left wire c.in-Ok.holds y (ap g.S.Calls.shown (sym (last ∙ c.finish-kept.ensures.session))) goes
    c.into_parts.result.0 c.into_parts.result.1 c.in-Ok.ensures.whole (c.in-Ok.ensures.ended c.in-End.is) c.into_parts.ensures.0 c.into_parts.ensures.1)
