-- The line holds what the reader has lost, which is at most a line and has no LF.
use Rattle.std.proofs.Common.{◌≤◌, length}
use Rattle.std.specs.Io.KnownBytes.{Keeps, prepend_known}
use Rattle.command_file.specs.Reading.{HasNoFeed}
use Rattle.command_file.proofs.line.next_line.Given as goal

abbrev pub invariant-loop : goal.invariant-loop
invariant-loop g l = record {
  short : length l.line.items ≤ 1024;
  free : HasNoFeed l.line.items;
  kept : Keeps (g.R.Read.remaining l.initial.file) (prepend_known l.line.items (g.R.Read.remaining l.file));
}
