use Rattle.std.proofs.Common.{take}
use Rattle.std.specs.Io.KnownBytes.{Appends}
use Rattle.run_lines.specs.Output.{file_texts}
use Rattle.run_lines.proofs.Written.{texts_of}
use Rattle.run_lines.proofs.output.write_files.Given as goal

abbrev pub invariant-loop-at : goal.invariant-loop-at
invariant-loop-at g l = Appends (g.W.Write.contents l.fn.out) (g.W.Write.contents l.out) (file_texts 1 (texts_of (take l.at l.texts)))
