use Rattle.std.proofs.Common.{IsTrue, [], ◌∷◌, refl, inl, inr}
use Rattle.std.specs.Prelude.{codes}
use Rattle.resp.specs.Replies.{Failure, Simple}
use Rattle.far_server.specs.Logins.{wrong_login, no_password}
use Rattle.far_server.proofs.Pushed.{on_ok}
use Rattle.far_server.proofs.login.answer_auth.Goals as goal

pub returns-then-is_none-2-clause-told : goal.returns-then-is_none-2-clause-told
returns-then-is_none-2-clause-told c = on_ok c.push_one_failure.result (λ is. (Failure no_password ∷ [], is, inr (refl, inr refl))) c.push_one_failure.ensures.exact

pub returns-then-not-is_right-clause-told : goal.returns-then-not-is_right-clause-told
returns-then-not-is_right-clause-told c = on_ok c.push_one_failure-then-not-is_right.result (λ is. (Failure wrong_login ∷ [], is, inr (refl, inl refl))) c.push_one_failure-then-not-is_right.ensures.exact

pub returns-clause-told : goal.returns-clause-told
returns-clause-told c =
    let yes : IsTrue c.is_right.result = search in
    on_ok c.push_one_simple.result (λ is. (Simple (codes "OK") ∷ [], is, inl (refl, c.is_right.ensures yes, refl))) c.push_one_simple.ensures.exact
