use Rattle.std.proofs.Common.{◌≡◌, ◌∷◌, [], refl, sym, ap, subst, ◌∙◌, inl, inr}
use Rattle.std.specs.Prelude.{codes}
use Rattle.resp.specs.Replies.{Failure, Simple}
use Rattle.commands.specs.Arguments.{listed}
use Rattle.commands.specs.declared.command.Command.{Command}
use Rattle.commands.specs.declared.command.Command.TheVariants as command
use Rattle.commands.specs.declared.name.OfNothing.{OfNothing}
use Rattle.commands.specs.declared.name.OfNothing.TheVariants as nothing
use Rattle.far_server.specs.Logins.{no_login}
use Rattle.far_server.specs.Answers.{Known, known, IsGatedAs}
use Rattle.far_server.proofs.Pushed.{on_ok}
use Rattle.far_server.proofs.Passing.{free_login, gated_nothing, gated_other}
use Rattle.far_server.proofs.request.answer_unauthenticated.Goals as goal

pub returns-in-Quit-clause-gated : goal.returns-in-Quit-clause-gated
returns-in-Quit-clause-gated c =
    let k = known c.args.connection.now in
    let G : Command → Type 0 = λ a. IsGatedAs c.args.settings.now.password a k k (Simple (codes "OK") ∷ []) in
    on_ok c.push_one_simple.result (λ is. (Simple (codes "OK") ∷ [], is, subst G (sym c.in-Quit.is) (refl, refl))) c.push_one_simple.ensures.exact

pub returns-in-Reset-clause-gated : goal.returns-in-Reset-clause-gated
returns-in-Reset-clause-gated c =
    let is : c.args.command ≡ command.Nothing nothing.Reset = c.in-Nothing.is ∙ ap (λ (of : OfNothing). command.Nothing of) c.in-Reset.is in
    let G : Command → Type 0 = λ a. IsGatedAs c.args.settings.now.password a (known c.args.connection.now) (known c.answer_reset.new.connection) (Simple (codes "RESET") ∷ []) in
    on_ok c.answer_reset.result (λ said. (Simple (codes "RESET") ∷ [], said, subst G (sym is) (c.answer_reset.ensures.known, refl))) c.answer_reset.ensures.said

pub returns-in-Reset-clause-login : goal.returns-in-Reset-clause-login
returns-in-Reset-clause-login c = λ is_authenticated. inr (free_login c.args.settings.now.password (listed c.args.request) (sym (ap (λ (k : Known). k.is_authenticated) c.answer_reset.ensures.known) ∙ is_authenticated))

pub returns-in_default-of : goal.returns-in_default-of
returns-in_default-of c =
    let k = known c.args.connection.now in
    let G : Command → Type 0 = λ a. IsGatedAs c.args.settings.now.password a k k (Failure no_login ∷ []) in
    record {
      gated = on_ok c.push_one_failure.result (λ is. (Failure no_login ∷ [], is, subst G (sym c.in-Nothing.is) (gated_nothing c.args.settings.now.password c.in-Nothing.of k (Failure no_login ∷ []) c.in_default-of.not-Reset refl))) c.push_one_failure.ensures.exact;
      login = λ may. inl may;
    }

pub returns-in_default : goal.returns-in_default
returns-in_default c = record {
  gated = on_ok c.push_one_failure-in_default.result (λ is. (Failure no_login ∷ [], is, gated_other c.args.settings.now.password c.args.command (known c.args.connection.now) (Failure no_login ∷ []) c.in_default.not-Quit c.in_default.not-Nothing c.in_default.not-Server refl)) c.push_one_failure-in_default.ensures.exact;
  login = λ may. inl may;
}
