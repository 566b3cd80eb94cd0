use Rattle.std.proofs.Common.{◌+◌, ◌*◌}
use Rattle.hash_table.proofs.table.+parts.Given as goal

abbrev pub decreases-FarTable::read_parts : goal.decreases-FarTable::read_parts
decreases-FarTable::read_parts g l = 4 * l.count + 3

abbrev pub decreases-FarTable::read_both : goal.decreases-FarTable::read_both
decreases-FarTable::read_both g l = 4 * (l.half + l.rest) + 2

abbrev pub decreases-FarTable::read_both-near : goal.decreases-FarTable::read_both-near
decreases-FarTable::read_both-near g l = 4 * l.half + 4

abbrev pub decreases-FarTable::read_both-far : goal.decreases-FarTable::read_both-far
decreases-FarTable::read_both-far g l = 4 * l.rest + 4
