use Rattle.std.proofs.Common.{subst}
use Rattle.far_object.specs.Encodings.{IsText}
use Rattle.far_object.proofs.text.TextFarObject.admitted.Goals as goal

pub returns : goal.returns
returns c = subst IsText c.self.view_is c.self.invariant
