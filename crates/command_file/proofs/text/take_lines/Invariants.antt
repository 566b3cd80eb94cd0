use Rattle.std.proofs.Common.{◌-◌, ◌+◌, ◌≤◌}
use Rattle.command_file.proofs.Texts.{Taken}
use Rattle.command_file.proofs.text.take_lines.Given as goal

abbrev pub invariant-loop-count : goal.invariant-loop-count
invariant-loop-count g l = record {
  taken : Taken (g.R.Read.remaining l.initial.file) (g.R.Read.remaining l.file) (l.count + 1) l.text.items;
  few : l.count ≤ 65536;
}

abbrev pub decreases-loop-count : goal.decreases-loop-count
decreases-loop-count g l = 65536 - l.count
