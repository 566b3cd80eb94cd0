use Rattle.far_object.proofs.Long.{grow_too_long}
use Rattle.far_object.proofs.laws.full_objects_grow_too_long.Goals as goal

pub returns : goal.returns
returns g c = grow_too_long g.K.FarObject.enc g.V.FarObject.enc
