use Rattle.std.proofs.Common.{◌≡◌, ◌++◌, ◌<◌, ◌^◌, ℕ, List, length}
use Rattle.commands.specs.Arguments.{listed}
use Rattle.far_server.specs.Many.{AreCounted}
use Rattle.far_server.proofs.several_keys.count_keys.Given as goal

abbrev pub invariant-loop-key : goal.invariant-loop-key
invariant-loop-key g l = (l.reply.items ≡ l.fn.reply.items) × (l.before ≡ length l.fn.reply.items) × (l.count < 2 ^ 63)
    × ((done : List (List ℕ)) × (listed l.fn.keys ≡ done ++ listed l.rest) × AreCounted g.S.Calls.limits l.asking.keyspace l.asking.now l.asking.most l.asking.command done 0 l.count (g.S.Calls.shown l.fn.me) (g.S.Calls.shown l.me))

abbrev pub decreases-loop-key : goal.decreases-loop-key
decreases-loop-key g l = length (listed l.rest)
