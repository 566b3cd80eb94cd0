use Rattle.version_words.proofs.Fronts.{contents_kept}
use Rattle.version_words.proofs.laws.contents_stay.Goals as goal

pub returns : goal.returns
returns g c = λ l front log n b lawful pre drawn. contents_kept g.K.FarObject.enc g.V.FarObject.enc l front log n b lawful pre drawn
