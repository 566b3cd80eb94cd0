use Rattle.table_core.proofs.Histories.{agree}
use Rattle.table_core.proofs.laws.contents_are_map.Goals as goal

pub returns : goal.returns
returns g c = λ l log b honest lawful. agree g.K.FarObject.enc g.V.FarObject.enc l honest log lawful b
