use Rattle.std.proofs.Common.{◌≡◌, ◌∷◌, [], ◌++◌, List, refl, sym, ap, subst, inl}
use Rattle.std.specs.List.{flat_map}
use Rattle.resp.specs.Replies.{Token, Failure, token}
use Rattle.far_server.specs.Transactions.{waits_in}
use Rattle.far_server.specs.Logins.{no_login}
use Rattle.far_server.specs.Answers.{known, IsGatedAs}
use Rattle.commands.specs.Arguments.{listed}
use Rattle.far_server.specs.Reads.{IsSpelled}
use Rattle.commands.specs.declared.command.Command.TheVariants as command
use Rattle.commands.specs.declared.server.ServerCommand.{ServerCommand}
use Rattle.commands.specs.declared.server.ServerCommand.TheVariants as server
use Rattle.far_server.proofs.Pushed.{on_ok, in_other}
use Rattle.far_server.proofs.Passing.{has_login, gated_server}
use Rattle.far_server.proofs.request.answer_login.Goals as goal

pub returns-in-Auth-clause-login : goal.returns-in-Auth-clause-login
returns-in-Auth-clause-login c =
    let Q : ServerCommand → Type 0 = λ x. IsSpelled (listed c.args.request) (command.Server x) in
    let login = c.in-Auth.login in
    λ is_authenticated. in_other (c.answer_auth.ensures.login is_authenticated) (λ right. has_login c.args.settings.now.password (listed c.args.request) (command.Server (server.Auth login)) (subst Q c.in-Auth.is c.requires) right)

pub returns-in-Hello-clause-login : goal.returns-in-Hello-clause-login
returns-in-Hello-clause-login c =
    let Q : ServerCommand → Type 0 = λ x. IsSpelled (listed c.args.request) (command.Server x) in
    let greeting = c.in-Hello.greeting in
    λ is_authenticated. in_other (c.answer_hello.ensures.login is_authenticated) (λ right. has_login c.args.settings.now.password (listed c.args.request) (command.Server (server.Hello greeting)) (subst Q c.in-Hello.is c.requires) right)

pub returns-in-Hello-clause-gated : goal.returns-in-Hello-clause-gated
returns-in-Hello-clause-gated c =
    let G : ServerCommand → Type 0 = λ s. (rs : List Token) × (c.answer_hello.new.reply.items ≡ c.args.reply.now.items ++ flat_map token rs) × IsGatedAs c.args.settings.now.password (command.Server s) (known c.args.connection.now) (known c.answer_hello.new.connection) rs in
    on_ok c.answer_hello.result (λ p. subst G (sym c.in-Hello.is) (p.0, p.1, (ap waits_in c.answer_hello.ensures.queue, c.answer_hello.ensures.selected, p.2))) c.answer_hello.ensures.told

pub returns-in_default : goal.returns-in_default
returns-in_default c = record {
  gated = on_ok c.push_one_failure.result (λ is. (Failure no_login ∷ [], is, gated_server c.args.settings.now.password c.args.command (known c.args.connection.now) (Failure no_login ∷ []) c.in_default.not-Auth c.in_default.not-Hello refl)) c.push_one_failure.ensures.exact;
  login = λ may. inl may;
}
