use Rattle.std.proofs.KnownBytes.{Appends-nil}
use Rattle.wordcount.proofs.Written.{more_words, all_words}
use Rattle.wordcount.proofs.write_words.Goals as goal

pub loop-word-init : goal.loop-word-init
loop-word-init g c = Appends-nil (g.W.Write.contents c.args.out.now)

pub loop-word-preserved : goal.loop-word-preserved
loop-word-preserved g c =
    more_words (g.W.Write.contents c.args.out.now) (g.W.Write.contents c.loop-word.out) (g.W.Write.contents c.write_word.new.out) c.args.words.now c.loop-word.word-index c.word-item.result
    c.loop-word-test.true c.word-item.is c.loop-word.invariant c.in_ok-write_word.ensures

pub returns : goal.returns
returns g c = all_words (g.W.Write.contents c.args.out.now) (g.W.Write.contents c.loop-word.out) c.args.words.now c.loop-word.word-index c.loop-word-test.false c.loop-word.invariant
