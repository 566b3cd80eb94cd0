use Rattle.swapper.proofs.Bits.{no_marks}
use Rattle.swapper.proofs.marks.Marks.open.Goals as goal

pub returns : goal.returns
returns c = no_marks _ c.args.count (c.in_ok-words.ensures.items_if_clones_equal (λ y e. e))
