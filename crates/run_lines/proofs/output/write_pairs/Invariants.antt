use Rattle.std.proofs.Common.{map, take}
use Rattle.std.specs.Io.KnownBytes.{Appends}
use Rattle.run_lines.specs.Output.{written, pair_line}
use Rattle.run_lines.proofs.output.write_pairs.Given as goal

abbrev pub invariant-loop-pair : goal.invariant-loop-pair
invariant-loop-pair g l = Appends (g.W.Write.contents l.fn.out) (g.W.Write.contents l.out) (written (map (λ e. pair_line (g.P.Pair.texts_of e)) (take l.pair-index l.pairs)))
