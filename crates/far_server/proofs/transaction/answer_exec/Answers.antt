use Rattle.std.proofs.Common.{◌≡◌, ◌∷◌, [], ◌++◌, true, false, Option, Some, None, ℕ, List, refl, sym, ap, ◌∙◌, inr}
use Rattle.std.specs.List.{flat_map}
use Rattle.resp.specs.Replies.{Failure, token}
use Rattle.far_map.specs.declared.refusal.MapRefusal.TheVariants as refusal
use Rattle.far_server.specs.declared.queue.Queue.{Queue}
use Rattle.far_server.specs.Refusing.{text_of}
use Rattle.far_server.specs.Transactions.{waits_in}
use Rattle.far_server.specs.Answers.{no_multi_before_exec, exec_abort, IsExecuted}
use Rattle.far_server.proofs.Pushed.{on_ok}
use Rattle.far_server.proofs.Executing.{taken, spoilt, ran_all}
use Rattle.far_server.proofs.transaction.answer_exec.Goals as goal

pub returns-in-None-clause-executed : goal.returns-in-None-clause-executed
returns-in-None-clause-executed g c =
    let is : c.args.connection.now.queue ≡ None = sym c.take.ensures.value ∙ c.in-None.is in
    let session = g.S.Calls.shown c.args.me.now in
    let E : Option Queue → Option Queue → Type 0 = λ q r. IsExecuted g.S.Calls.limits c.args.context.now.settings.now.digest_keys c.args.context.now.settings.now.bounds (waits_in q) (waits_in r) c.args.connection.now.selected c.args.connection.now.selected session session (Failure no_multi_before_exec ∷ []) in
    on_ok c.push_one_failure.result (λ said. (Failure no_multi_before_exec ∷ [], said, taken E c.args.connection.now.queue None c.take.new.self is c.take.ensures.after (refl, refl, refl, refl))) c.push_one_failure.ensures.exact

pub returns-then-is_spoilt-clause-executed : goal.returns-then-is_spoilt-clause-executed
returns-then-is_spoilt-clause-executed g c =
    let l = g.S.Calls.limits in
    let digest = c.args.context.now.settings.now.digest_keys in
    let bounds = c.args.context.now.settings.now.bounds in
    let is : c.args.connection.now.queue ≡ Some c.in-Some.queue = sym c.take.ensures.value ∙ c.in-Some.is in
    let session = g.S.Calls.shown c.args.me.now in
    let yes : c.in-Some.queue.is_spoilt ≡ true = search in
    let E : Option Queue → Option Queue → Type 0 = λ q r. IsExecuted l digest bounds (waits_in q) (waits_in r) c.args.connection.now.selected c.args.connection.now.selected session session (Failure exec_abort ∷ []) in
    on_ok c.push_one_failure-then-is_spoilt.result (λ said. (Failure exec_abort ∷ [], said, taken E c.args.connection.now.queue (Some c.in-Some.queue) c.take.new.self is c.take.ensures.after (spoilt l digest bounds c.in-Some.queue c.args.connection.now.selected session yes))) c.push_one_failure-then-is_spoilt.ensures.exact

pub returns-then-not-has_room_for_short-clause-executed : goal.returns-then-not-has_room_for_short-clause-executed
returns-then-not-has_room_for_short-clause-executed g c =
    let l = g.S.Calls.limits in
    let digest = c.args.context.now.settings.now.digest_keys in
    let bounds = c.args.context.now.settings.now.bounds in
    let is : c.args.connection.now.queue ≡ Some c.in-Some.queue = sym c.take.ensures.value ∙ c.in-Some.is in
    let session = g.S.Calls.shown c.args.me.now in
    let no : c.in-Some.queue.is_spoilt ≡ false = search in
    let memory = Failure (text_of refusal.Memory) ∷ [] in
    let told : c.text_of.result.now ≡ text_of refusal.Memory = c.text_of.ensures in
    let E : Option Queue → Option Queue → Type 0 = λ q r. IsExecuted l digest bounds (waits_in q) (waits_in r) c.args.connection.now.selected c.args.connection.now.selected session session memory in
    on_ok c.push_one_failure-then-not-has_room_for_short.result (λ said. (
      memory,
      said ∙ ap (λ (t : List ℕ). c.has_room_for_short.new.reply.items ++ flat_map token (Failure t ∷ [])) told ∙ ap (λ (bytes : List ℕ). bytes ++ flat_map token memory) c.has_room_for_short.ensures,
      taken E c.args.connection.now.queue (Some c.in-Some.queue) c.take.new.self is c.take.ensures.after (ran_all l digest bounds c.in-Some.queue c.args.connection.now.selected c.args.connection.now.selected session session memory no (inr (refl, refl, refl))),
    )) c.push_one_failure-then-not-has_room_for_short.ensures.exact
