use Rattle.std.proofs.Common.{◌≡◌, ◌≤◌, ◌++◌, ◌+◌, length, reverse}
use Rattle.hash_table.proofs.limbo.turn.Given as goal

-- what was turned over, and behind it what is left from the last on
abbrev pub invariant-loop-spare : goal.invariant-loop-spare
invariant-loop-spare g l = (l.older.items ++ reverse l.newer.items ≡ reverse l.fn.newer.items) × (length l.older.items + length l.newer.items ≤ 64)

abbrev pub decreases-loop-spare : goal.decreases-loop-spare
decreases-loop-spare g l = length l.newer.items
