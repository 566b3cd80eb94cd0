use Rattle.far_object.proofs.Distinct.{reads_what_begins}
use Rattle.far_object.proofs.laws.values_are_where_encodings_begin.Goals as goal

pub returns : goal.returns
returns g c = reads_what_begins _ _ _ g.T.FarObject.laws
