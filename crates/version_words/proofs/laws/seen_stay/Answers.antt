use Rattle.version_words.proofs.Fronts.{seen_kept}
use Rattle.version_words.proofs.laws.seen_stay.Goals as goal

pub returns : goal.returns
returns g c = λ l front log b w lawful pre seen. seen_kept g.K.FarObject.enc g.V.FarObject.enc l front log b w lawful pre seen
