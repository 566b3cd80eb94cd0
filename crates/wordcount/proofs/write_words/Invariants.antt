use Rattle.std.proofs.Common.{map, take}
use Rattle.std.specs.Io.KnownBytes.{Appends}
use Rattle.wordcount.specs.Counted.{lines_of, word_in}
use Rattle.wordcount.proofs.write_words.Given as goal

abbrev pub invariant-loop-word : goal.invariant-loop-word
invariant-loop-word g l = Appends (g.W.Write.contents l.fn.out) (g.W.Write.contents l.out) (lines_of (map word_in (take l.word-index l.words)))
