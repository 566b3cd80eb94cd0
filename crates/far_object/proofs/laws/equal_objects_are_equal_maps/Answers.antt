use Rattle.far_object.proofs.Distinct.{same_map}
use Rattle.far_object.proofs.laws.equal_objects_are_equal_maps.Goals as goal

pub returns : goal.returns
returns g c = same_map _ _ _ _ _ _ g.K.FarObject.laws g.V.FarObject.laws
