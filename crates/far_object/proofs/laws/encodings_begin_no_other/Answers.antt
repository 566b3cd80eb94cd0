use Rattle.far_object.proofs.Distinct.{none_begins}
use Rattle.far_object.proofs.laws.encodings_begin_no_other.Goals as goal

pub returns : goal.returns
returns g c = none_begins _ _ _ g.T.FarObject.laws
