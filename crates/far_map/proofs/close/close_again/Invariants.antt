use Rattle.hash_table.specs.Closes.{AreBack}
use Rattle.far_map.proofs.close.close_again.Given as goal

-- the callers are those handed in, with no call more
abbrev pub invariant-loop : goal.invariant-loop
invariant-loop g l = AreBack l.fn.callers.items l.callers.items
