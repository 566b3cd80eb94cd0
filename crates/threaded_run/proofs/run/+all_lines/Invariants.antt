use Rattle.std.proofs.Common.{length}
use Rattle.threaded_run.proofs.run.+all_lines.Given as goal

abbrev pub decreases-all_lines : goal.decreases-all_lines
decreases-all_lines l = length l.outs.items
