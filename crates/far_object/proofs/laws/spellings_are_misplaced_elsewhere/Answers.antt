use Rattle.far_object.proofs.Placing.{misplaced_elsewhere}
use Rattle.far_object.proofs.laws.spellings_are_misplaced_elsewhere.Goals as goal

pub returns : goal.returns
returns g c = misplaced_elsewhere g.K.FarObject.enc g.V.FarObject.enc g.K.FarObject.dec g.V.FarObject.dec
