use Rattle.far_object.proofs.Long.{are_long}
use Rattle.far_object.proofs.laws.objects_are_longer_than_their_counts.Goals as goal

pub returns : goal.returns
returns g c = are_long g.K.FarObject.enc g.V.FarObject.enc
