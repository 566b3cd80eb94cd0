use Rattle.std.proofs.Common.{◌≡◌, ◌∷◌, [], Option, Some, None, refl, sym, ◌∙◌}
use Rattle.std.specs.Prelude.{codes}
use Rattle.resp.specs.Replies.{Failure, Simple}
use Rattle.far_server.specs.declared.queue.Queue.{Queue}
use Rattle.far_server.specs.Transactions.{waits_in, no_multi_before_discard, IsDropped}
use Rattle.far_server.proofs.Pushed.{on_ok}
use Rattle.far_server.proofs.Executing.{taken}
use Rattle.far_server.proofs.transaction.answer_discard.Goals as goal

pub returns-in_default-clause-dropped : goal.returns-in_default-clause-dropped
returns-in_default-clause-dropped c =
    let is : c.args.connection.now.queue ≡ None = sym c.take.ensures.value ∙ c.in_default.is in
    let D : Option Queue → Option Queue → Type 0 = λ q r. IsDropped (waits_in q) (waits_in r) (Failure no_multi_before_discard ∷ []) in
    on_ok c.push_one_failure.result (λ said. (Failure no_multi_before_discard ∷ [], said, taken D c.args.connection.now.queue None c.take.new.self is c.take.ensures.after (refl, refl))) c.push_one_failure.ensures.exact

pub returns-clause-dropped : goal.returns-clause-dropped
returns-clause-dropped c =
    let is : c.args.connection.now.queue ≡ Some c.in-Some.field-0 = sym c.take.ensures.value ∙ c.in-Some.is in
    let D : Option Queue → Option Queue → Type 0 = λ q r. IsDropped (waits_in q) (waits_in r) (Simple (codes "OK") ∷ []) in
    on_ok c.push_one_simple.result (λ said. (Simple (codes "OK") ∷ [], said, taken D c.args.connection.now.queue (Some c.in-Some.field-0) c.take.new.self is c.take.ensures.after (refl, refl))) c.push_one_simple.ensures.exact
