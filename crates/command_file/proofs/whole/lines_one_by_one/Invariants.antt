use Rattle.command_file.proofs.Windows.{Whole}
use Rattle.command_file.proofs.whole.lines_one_by_one.Given as goal

abbrev pub invariant-loop-count : goal.invariant-loop-count
invariant-loop-count l = Whole l.bytes l.end l.count
