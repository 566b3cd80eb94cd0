use Rattle.std.proofs.Common.{◌∷◌, [], refl, inl, inr}
use Rattle.std.specs.Prelude.{IsFalse}
use Rattle.resp.specs.Replies.{Failure}
use Rattle.far_server.specs.Logins.{wrong_login}
use Rattle.far_server.proofs.Pushed.{on_ok}
use Rattle.far_server.proofs.login.answer_hello.Goals as goal

pub returns-then-not-log_in-clause-told : goal.returns-then-not-log_in-clause-told
returns-then-not-log_in-clause-told c =
    let no : IsFalse c.log_in.result = search in
    on_ok c.push_one_failure.result (λ is. (Failure wrong_login ∷ [], is, (inl (c.log_in.ensures.kept no), inr (wrong_login, inl refl, refl)))) c.push_one_failure.ensures.exact
