use Rattle.version_words.proofs.Holding.{change_fits}
use Rattle.version_words.proofs.laws.changes_fit.Goals as goal

pub returns : goal.returns
returns g c = λ l log b w o honest lawful seen here. change_fits g.K.FarObject.enc g.V.FarObject.enc l honest log b w o lawful seen here
