use Rattle.std.proofs.Common.{◌∷◌, [], refl, subst, inl, inr, Result}
use Rattle.resp.specs.Replies.{Failure}
use Rattle.commands.specs.Arguments.{listed}
use Rattle.commands.specs.Commands.{Spells}
use Rattle.commands.specs.declared.command.Command.{Command}
use Rattle.commands.specs.declared.fault.CommandFault.{CommandFault}
use Rattle.far_server.specs.Reads.{IsUnread, IsReadAt}
use Rattle.far_server.proofs.Pushed.{on_ok}
use Rattle.far_server.proofs.OneReply.{one}
use Rattle.far_server.proofs.command.run.Goals as goal

pub returns-in-Ok-clause-ran : goal.returns-in-Ok-clause-ran
returns-in-Ok-clause-ran g c =
    let Q : Result Command CommandFault → Type 0 = λ r. IsReadAt c.args.now (listed c.args.request) r in
    let spells : Spells c.args.now (listed c.args.request) c.in-Ok.command = subst Q c.in-Ok.is c.requires.read in
    on_ok c.run_command-done.result (λ p. (p.0, p.1, (p.2, (c.args.now, c.requires.looked, inl (c.in-Ok.command, spells, p.3))))) c.run_command-done.ensures.ran

pub returns-in-Err-clause-ran : goal.returns-in-Err-clause-ran
returns-in-Err-clause-ran g c =
    let Q : Result Command CommandFault → Type 0 = λ r. IsReadAt c.args.now (listed c.args.request) r in
    let unread : IsUnread (listed c.args.request) = subst Q c.in-Err.is c.requires.read in
    on_ok c.push_one_fault.result (λ said. (Failure said.0 ∷ [], said.1, (one (Failure said.0) refl, (c.args.now, c.requires.looked, inr (refl, (refl, unread, (said.0, refl))))))) c.push_one_fault.ensures
