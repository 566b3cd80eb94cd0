use Rattle.std.proofs.Common.{◌-◌, ◌≤◌}
use Rattle.command_file.proofs.Windows.{Whole}
use Rattle.command_file.proofs.whole.whole_lines.Given as goal

abbrev pub invariant-loop-count : goal.invariant-loop-count
invariant-loop-count l = record {
  whole : Whole l.bytes l.end l.count;
  few : l.count ≤ l.most;
}

abbrev pub decreases-loop-count : goal.decreases-loop-count
decreases-loop-count l = l.most - l.count
