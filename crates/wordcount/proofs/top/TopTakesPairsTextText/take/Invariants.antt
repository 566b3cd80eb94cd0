use Rattle.wordcount.specs.Taking.{Takes}
use Rattle.wordcount.proofs.top.TopTakesPairsTextText.take.Given as goal

abbrev pub invariant-loop-word : goal.invariant-loop-word
invariant-loop-word l = Takes l.fn.self.most l.fn.self.kept l.yielded l.self.most l.self.kept
