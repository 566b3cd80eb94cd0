use Rattle.far_object.proofs.Distinct.{same_value}
use Rattle.far_object.proofs.laws.equal_encodings_are_equal_values.Goals as goal

pub returns : goal.returns
returns g c = same_value _ _ _ g.T.FarObject.laws
