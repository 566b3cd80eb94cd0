use Rattle.std.proofs.Common.{◌≡◌, ◌≤◌, ◌-◌, ◌++◌, ◌∷◌, ℕ, List, length}
use Rattle.std.specs.List.{flat_map}
use Rattle.resp.specs.Replies.{Token, Count, token}
use Rattle.commands.specs.Arguments.{listed}
use Rattle.far_server.specs.Many.{AreListed}
use Rattle.far_server.proofs.several_keys.get_keys.Given as goal

abbrev pub invariant-loop-key : goal.invariant-loop-key
invariant-loop-key g l = (l.before ≡ length l.fn.reply.items) × (l.before ≤ length l.reply.items)
    × ((each : List Token) × (l.reply.items ≡ l.fn.reply.items ++ flat_map token (Count (length (listed l.fn.keys)) ∷ each))
    × ((done : List (List ℕ)) × (listed l.fn.keys ≡ done ++ listed l.rest) × AreListed g.S.Calls.limits l.asking.keyspace l.asking.now l.asking.most l.asking.command (l.limit - length (token (Count (length (listed l.fn.keys))))) done each (g.S.Calls.shown l.fn.me) (g.S.Calls.shown l.me)))

abbrev pub decreases-loop-key : goal.decreases-loop-key
decreases-loop-key g l = length (listed l.rest)
