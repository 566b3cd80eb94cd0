use Rattle.std.proofs.Common.{◌≡◌, ◌++◌, ℕ, List, length}
use Rattle.commands.specs.Arguments.{listed}
use Rattle.far_server.specs.Many.{AreSet}
use Rattle.far_server.proofs.several_keys.set_pairs.Given as goal

abbrev pub invariant-loop-key : goal.invariant-loop-key
invariant-loop-key g l = (l.reply.items ≡ l.fn.reply.items) × (l.before ≡ length l.fn.reply.items) × ((before : List (List ℕ)) × (listed l.fn.pairs ≡ before ++ listed l.rest) × AreSet g.S.Calls.limits l.keyspace l.now l.most before (g.S.Calls.shown l.fn.me) (g.S.Calls.shown l.me))

abbrev pub decreases-loop-key : goal.decreases-loop-key
decreases-loop-key g l = length (listed l.rest)
