use Rattle.std.proofs.Common.{[], ◌∷◌, Result, refl, subst, inl, inr}
use Rattle.resp.specs.Replies.{Failure}
use Rattle.commands.specs.Arguments.{listed}
use Rattle.commands.specs.declared.command.Command.{Command}
use Rattle.commands.specs.declared.fault.CommandFault.{CommandFault}
use Rattle.far_server.specs.Reads.{IsUnread, IsSpelled, IsRead}
use Rattle.far_server.proofs.Pushed.{on_ok}
use Rattle.far_server.proofs.request.refuse_or_log_in.Goals as goal

pub returns-in-Ok-clause-gated : goal.returns-in-Ok-clause-gated
returns-in-Ok-clause-gated c =
    let Q : Result Command CommandFault → Type 0 = λ r. IsRead (listed c.args.request) r in
    let spells : IsSpelled (listed c.args.request) c.in-Ok.command = subst Q c.in-Ok.is c.requires in
    on_ok c.answer_unauthenticated.result (λ p. (p.0, p.1, inl (c.in-Ok.command, spells, p.2))) c.answer_unauthenticated.ensures.gated

pub returns-in-Err-clause-gated : goal.returns-in-Err-clause-gated
returns-in-Err-clause-gated c =
    let Q : Result Command CommandFault → Type 0 = λ r. IsRead (listed c.args.request) r in
    let unread : IsUnread (listed c.args.request) = subst Q c.in-Err.is c.requires in
    on_ok c.push_one_fault.result (λ said. (Failure said.0 ∷ [], said.1, inr (unread, refl, (said.0, refl)))) c.push_one_fault.ensures
