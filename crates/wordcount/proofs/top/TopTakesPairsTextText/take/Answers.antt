use Rattle.wordcount.specs.Taking.{taken_none, taken_both}
use Rattle.wordcount.proofs.top.TopTakesPairsTextText.take.Goals as goal

pub loop-word-init : goal.loop-word-init
loop-word-init c = taken_none c.args.self.now.most c.args.self.now.kept

pub loop-word-preserved : goal.loop-word-preserved
loop-word-preserved c = taken_both _ _ _ c.args.self.now.kept c.loop-word.self.kept c.take_word.new.self.kept _ _ c.loop-word.invariant (c.take_word.ensures.most, c.in-Ok.ensures.first)
