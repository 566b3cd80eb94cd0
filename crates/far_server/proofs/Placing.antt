-- Connections at the places of their numbers.
use Rattle.std.proofs.Common.{◌≡◌, Bool, Option, None, ap, ◌∙◌}
use Rattle.far_server.specs.declared.connection.Connection.{Connection}
use Rattle.far_server.specs.declared.queue.Queue.{Queue}
use Rattle.far_server.specs.declared.selection.Selection.{Selection}
use Rattle.far_server.specs.Selections.{first_selected}
use Rattle.far_server.specs.Transactions.{waits_in}
use Rattle.far_server.specs.Answers.{known, new_known}

pub is_new : (c : Connection) (is_authenticated : Bool) → c.is_authenticated ≡ is_authenticated → c.queue ≡ None → c.selected ≡ first_selected → known c ≡ new_known is_authenticated
is_new c is_authenticated may none first =
    ap (λ (p : Bool). record { is_authenticated = p; selected = c.selected; waits = waits_in c.queue }) may
    ∙ (ap (λ (s : Selection). record { is_authenticated = is_authenticated; selected = s; waits = waits_in c.queue }) first
    ∙ ap (λ (q : Option Queue). record { is_authenticated = is_authenticated; selected = first_selected; waits = waits_in q }) none)
