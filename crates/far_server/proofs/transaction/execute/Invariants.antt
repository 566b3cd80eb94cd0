use Rattle.std.proofs.Common.{◌≡◌, true, ◌≤◌, ◌-◌, ◌++◌, ◌∷◌, List, length, drop}
use Rattle.std.specs.List.{flat_map}
use Rattle.resp.specs.Replies.{Token, Count, token}
use Rattle.far_server.specs.Queues.{waiting}
use Rattle.far_server.proofs.Executing.{GoesOn}
use Rattle.far_server.proofs.transaction.execute.Given as goal

abbrev pub invariant-loop-at : goal.invariant-loop-at
invariant-loop-at g l = ((l.connection.queue ≡ l.fn.connection.queue) × (l.fn.connection.is_authenticated ≡ true → l.connection.is_authenticated ≡ true)) × (l.before ≡ length l.fn.reply.items) × (l.before ≤ length l.reply.items)
    × ((each : List Token) × (l.reply.items ≡ l.fn.reply.items ++ flat_map token (Count (length (waiting l.queue)) ∷ each))
    × GoesOn g.S.Calls.limits l.context.settings.now.digest_keys l.context.settings.now.bounds (l.context.settings.now.bounds.longest_reply - length (token (Count (length (waiting l.queue))))) (waiting l.queue) (l.context.settings.now.bounds.longest_reply - length (flat_map token (Count (length (waiting l.queue)) ∷ each))) (drop l.at (waiting l.queue)) each l.fn.connection.selected l.connection.selected (g.S.Calls.shown l.fn.me) (g.S.Calls.shown l.me))
