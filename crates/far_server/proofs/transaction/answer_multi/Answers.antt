use Rattle.std.proofs.Common.{◌≡◌, ◌∷◌, [], Option, Some, None, refl, sym, ap, subst, ◌∙◌}
use Rattle.std.specs.Prelude.{codes}
use Rattle.resp.specs.Replies.{Failure, Simple}
use Rattle.far_server.specs.declared.queue.Queue.{Queue}
use Rattle.far_server.specs.Transactions.{Waiting, waits_of, waits_in, nested, IsBegun}
use Rattle.far_server.proofs.Pushed.{on_ok}
use Rattle.far_server.proofs.transaction.answer_multi.Goals as goal

pub returns-in-Some-clause-begun : goal.returns-in-Some-clause-begun
returns-in-Some-clause-begun c =
    let is : c.args.connection.now.queue ≡ Some c.in-Some.queue = sym c.take.ensures.value ∙ c.in-Some.is in
    let B : Option Queue → Type 0 = λ q. IsBegun (waits_in q) (Some (waits_of c.in-Some.queue)) (Failure nested ∷ []) in
    on_ok c.push_one_failure.result (λ said. (Failure nested ∷ [], said, subst B (sym is) (refl, refl))) c.push_one_failure.ensures.exact

pub returns-in-None-clause-begun : goal.returns-in-None-clause-begun
returns-in-None-clause-begun c =
    let is : c.args.connection.now.queue ≡ None = sym c.take.ensures.value ∙ c.in-None.is in
    let B : Option Queue → Type 0 = λ q. IsBegun (waits_in q) (Some (waits_of c.new.result)) (Simple (codes "OK") ∷ []) in
    on_ok c.push_one_simple.result (λ said. (Simple (codes "OK") ∷ [], said, subst B (sym is) (ap (λ (w : Waiting). Some w) c.new.ensures, refl))) c.push_one_simple.ensures.exact
