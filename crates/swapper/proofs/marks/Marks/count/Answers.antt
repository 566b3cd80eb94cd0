use Rattle.std.proofs.Common.{◌∙◌, sym, ap, length}
use Rattle.swapper.proofs.Bits.{marks_length}
use Rattle.swapper.proofs.marks.Marks.count.Goals as goal

pub returns : goal.returns
returns c = sym (marks_length c.self.inside.words.items c.self.inside.count) ∙ ap length c.self.view_is
