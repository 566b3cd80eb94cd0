use Rattle.version_words.proofs.Fronts.{one_begins}
use Rattle.version_words.proofs.mark.Mark.compare.Goals as goal

pub returns : goal.returns
returns g c = one_begins c.args.self.now c.args.other.now c.learn.new.self (rw c.again-both.ensures.same at c.learn.ensures.own) c.learn.ensures.told
