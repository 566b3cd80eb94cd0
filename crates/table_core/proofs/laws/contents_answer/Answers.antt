use Rattle.table_core.proofs.Histories.{answer}
use Rattle.table_core.proofs.laws.contents_answer.Goals as goal

pub returns : goal.returns
returns g c = λ l log k honest lawful. answer g.K.FarObject.enc g.V.FarObject.enc l honest log lawful k
