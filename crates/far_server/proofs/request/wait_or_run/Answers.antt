use Rattle.std.proofs.Common.{◌≡◌, Option, Some, None, refl, sym, ap, subst, ◌∙◌}
use Rattle.commands.specs.Arguments.{listed}
use Rattle.far_server.specs.declared.queue.Queue.{Queue}
use Rattle.far_server.specs.Transactions.{waits_of, waits_in}
use Rattle.far_server.specs.Answers.{IsRunOrHeldBy}
use Rattle.far_server.proofs.Pushed.{on_ok}
use Rattle.far_server.proofs.request.wait_or_run.Goals as goal

pub returns-in-None-clause-served : goal.returns-in-None-clause-served
returns-in-None-clause-served g c =
    let is : c.args.connection.now.queue ≡ None = sym c.take.ensures.value ∙ c.in-None.is in
    let none = ap waits_in (c.run.ensures.queue ∙ c.take.ensures.after) in
    on_ok c.run.result (λ p.
    let R : Option Queue → Type 0 = λ q. IsRunOrHeldBy g.S.Calls.limits c.args.context.now.settings.now.digest_keys c.args.context.now.settings.now.bounds (waits_in q) (waits_in c.run.new.connection.queue) c.args.connection.now.selected c.run.new.connection.selected (listed c.args.request) (g.S.Calls.shown c.args.me.now) (g.S.Calls.shown c.run.new.me) p.0 in
    (p.0, p.1, subst R (sym is) (none, p.2))) c.run.ensures.ran

pub returns-in-Some-clause-served : goal.returns-in-Some-clause-served
returns-in-Some-clause-served g c =
    let is : c.args.connection.now.queue ≡ Some c.in-Some.queue = sym c.take.ensures.value ∙ c.in-Some.is in
    let session = g.S.Calls.shown c.args.me.now in
    on_ok c.wait-waited.result (λ p.
    let R : Option Queue → Type 0 = λ q. IsRunOrHeldBy g.S.Calls.limits c.args.context.now.settings.now.digest_keys c.args.context.now.settings.now.bounds (waits_in q) (Some (waits_of c.wait-waited.new.queue)) c.args.connection.now.selected c.args.connection.now.selected (listed c.args.request) session session p.0 in
    (p.0, p.1, subst R (sym is) (refl, refl, (waits_of c.wait-waited.new.queue, refl, p.2)))) c.wait-waited.ensures
