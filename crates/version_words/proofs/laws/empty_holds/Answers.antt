use Rattle.version_words.proofs.Holding.{none_held}
use Rattle.version_words.proofs.laws.empty_holds.Goals as goal

pub returns : goal.returns
returns g c = λ l log b w honest lawful seen none. none_held g.K.FarObject.enc g.V.FarObject.enc l honest log b w lawful seen none
