use Rattle.std.proofs.Common.{◌∙◌, arith}
use Rattle.far_object.proofs.Spelled.{numbers_decide}
use Rattle.far_object.proofs.number.U64FarObject.compare.Goals as goal

pub returns : goal.returns
returns c = c.cmp.ensures ∙ numbers_decide c.args.self.now c.args.other.now (omega arith) (omega arith)
