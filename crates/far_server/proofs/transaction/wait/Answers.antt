use Rattle.std.proofs.Common.{◌∷◌, [], ◌++◌, Bool, true, ℕ, List, Result, refl, ap, subst, ◌∙◌, inl, inr}
use Rattle.std.specs.Prelude.{codes}
use Rattle.resp.specs.Replies.{Failure, Simple}
use Rattle.commands.specs.Arguments.{listed}
use Rattle.commands.specs.declared.command.Command.{Command}
use Rattle.commands.specs.declared.fault.CommandFault.{CommandFault}
use Rattle.far_server.specs.Queues.{waiting}
use Rattle.far_server.specs.Transactions.{Waiting}
use Rattle.far_server.specs.Reads.{IsUnread, IsRead}
use Rattle.far_server.proofs.Pushed.{on_ok}
use Rattle.far_server.proofs.transaction.wait.Goals as goal

pub returns-then-spoils : goal.returns-then-spoils
returns-then-spoils c =
    let Q : Result Command CommandFault → Type 0 = λ r. IsRead (listed c.args.request) r in
    let unread : IsUnread (listed c.args.request) = subst Q c.in-Err.is c.requires in
    on_ok c.push_one_fault.result (λ said. (Failure said.0 ∷ [], said.1, inr (c.spoil.ensures, inl (unread, (said.0, refl))))) c.push_one_fault.ensures

pub returns-then-not-has_room : goal.returns-then-not-has_room
returns-then-not-has_room c = on_ok c.push_one_failure.result (λ is. (Failure (codes "ERR too many bytes wait for EXEC") ∷ [], is, inr (c.spoil-then-not-has_room.ensures, inr (inl refl)))) c.push_one_failure.ensures.exact

pub returns-in-Ok : goal.returns-in-Ok
returns-in-Ok c =
    let held : Waiting = record { requests = waiting c.args.queue.now ++ listed c.args.request ∷ []; is_spoilt = c.args.queue.now.is_spoilt } in
    let queued = ap (λ (rs : List (List (List ℕ))). record { requests = rs; is_spoilt = c.push.new.self.is_spoilt }) c.in-Ok.ensures.pushed ∙ ap (λ (b : Bool). record { requests = waiting c.args.queue.now ++ listed c.args.request ∷ []; is_spoilt = b }) c.push.ensures.is_spoilt in
    on_ok c.push_one_simple.result (λ is. (Simple (codes "QUEUED") ∷ [], is, inl (queued, refl))) c.push_one_simple.ensures.exact

pub returns-in-Err-push : goal.returns-in-Err-push
returns-in-Err-push c =
    let spoilt = c.spoil-in-Err-push.ensures ∙ ap (λ (rs : List (List (List ℕ))). record { requests = rs; is_spoilt = true }) c.in-Err-push.ensures.kept in
    on_ok c.push_one_failure-in-Err-push.result (λ is. (Failure c.text_of.result.now ∷ [], is, inr (spoilt, inr (inr (ap (λ (text : List ℕ). Failure text ∷ []) c.text_of.ensures))))) c.push_one_failure-in-Err-push.ensures.exact
