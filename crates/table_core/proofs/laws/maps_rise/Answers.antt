use Rattle.table_core.proofs.Keys.{rising}
use Rattle.table_core.proofs.laws.maps_rise.Goals as goal

pub returns : goal.returns
returns g c = λ calls. rising g.K.FarObject.enc g.V.FarObject.enc calls
