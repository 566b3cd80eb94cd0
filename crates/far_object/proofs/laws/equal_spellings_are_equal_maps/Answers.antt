use Rattle.far_object.proofs.Distinct.{same_spelling}
use Rattle.far_object.proofs.laws.equal_spellings_are_equal_maps.Goals as goal

pub returns : goal.returns
returns g c = same_spelling _ _ _ _ _ _ g.K.FarObject.laws g.V.FarObject.laws
