use Rattle.std.proofs.Common.{◌++◌, ◌∷◌, [], take}
use Rattle.std.specs.Prelude.{codes}
use Rattle.std.specs.List.{concat}
use Rattle.std.specs.Io.KnownBytes.{Appends}
use Rattle.run_lines.proofs.Written.{texts_of}
use Rattle.run_lines.proofs.lines.PairLines.write_contents.Given as goal

abbrev pub invariant-loop-text : goal.invariant-loop-text
invariant-loop-text g l = Appends (g.W.Write.contents l.fn.out) (g.W.Write.contents l.out) ((codes "contents" ++ 10 ∷ []) ++ concat (texts_of (take l.text-index l.text-items)))
