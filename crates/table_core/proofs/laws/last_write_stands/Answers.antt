use Rattle.table_core.proofs.Keys.{stands}
use Rattle.table_core.proofs.laws.last_write_stands.Goals as goal

pub returns : goal.returns
returns g c = λ calls k. stands g.K.FarObject.enc g.V.FarObject.enc k calls
