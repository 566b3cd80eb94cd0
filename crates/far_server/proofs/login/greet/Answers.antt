use Rattle.std.proofs.Common.{◌≡◌, ◌∷◌, [], true, refl, ap, ◌∙◌, inl, inr}
use Rattle.resp.specs.Replies.{Failure}
use Rattle.server_commands.specs.Greeting.{greeting}
use Rattle.far_server.specs.declared.connection.Connection.{Connection}
use Rattle.far_server.specs.Logins.{no_login_of_hello, long_name}
use Rattle.far_server.proofs.Pushed.{on_ok}
use Rattle.far_server.proofs.login.greet.Goals.{in-Some+in-Ok-true, in_default}
use Rattle.far_server.proofs.login.greet.Goals as goal

pub returns-then-not-connection-clause-told : goal.returns-then-not-connection-clause-told
returns-then-not-connection-clause-told c = on_ok c.push_one_failure.result (λ is. (Failure no_login_of_hello ∷ [], is, inr (no_login_of_hello, inr (inl refl), refl))) c.push_one_failure.ensures.exact

pub returns-in-Ok-false-clause-told : goal.returns-in-Ok-false-clause-told
returns-in-Ok-false-clause-told c = on_ok c.push_one_failure-in-Ok-false.result (λ is. (Failure long_name ∷ [], is, inr (long_name, inr (inr (inl refl)), refl))) c.push_one_failure-in-Ok-false.ensures.exact

pub returns-in-Err-clause-told : goal.returns-in-Err-clause-told
returns-in-Err-clause-told c = on_ok c.push_one_failure-in-Err.result (λ is. (Failure c.text_of.result.now ∷ [], is, inr (c.text_of.result.now, inr (inr (inr c.text_of.ensures)), refl))) c.push_one_failure-in-Err.ensures.exact

pub returns-clause-told : goal.returns-clause-told
returns-clause-told c =
    let before : c.args.connection.now.is_authenticated ≡ true = search in
    let may : c.match-name.connection.is_authenticated ≡ true = elim c.match-name.branch [
      | in-Some+in-Ok-true w ↦ ap (λ (k : Connection). k.is_authenticated) w.connection-is ∙ (w.set_name.ensures.is_authenticated ∙ before)
      | in_default w ↦ ap (λ (k : Connection). k.is_authenticated) w.connection-is ∙ before
    ] in
    on_ok c.hello.result (λ told. (greeting c.match-name.connection.id, told.spelled, inl (may, (c.match-name.connection.id, refl)))) c.hello.ensures.told
