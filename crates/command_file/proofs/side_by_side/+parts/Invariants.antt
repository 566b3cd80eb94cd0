use Rattle.std.proofs.Common.{◌+◌, ◌*◌}
use Rattle.command_file.proofs.side_by_side.+parts.Given as goal

abbrev pub decreases-place_parts : goal.decreases-place_parts
decreases-place_parts g l = 2 * l.parts

abbrev pub decreases-own : goal.decreases-own
decreases-own g l = 2 * l.left + 1
