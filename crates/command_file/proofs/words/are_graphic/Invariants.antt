use Rattle.std.proofs.Common.{◌↔◌, IsTrue}
use Rattle.command_file.proofs.Printing.{PrintsBefore}
use Rattle.command_file.proofs.words.are_graphic.Given as goal

abbrev pub invariant-loop-byte : goal.invariant-loop-byte
invariant-loop-byte l = IsTrue l.all ↔ PrintsBefore l.bytes l.byte-index
