use Rattle.version_words.proofs.Holding.{answered}
use Rattle.version_words.proofs.laws.seen_answers.Goals as goal

pub returns : goal.returns
returns g c = λ l seen log b w pass o new honest lawful key was follows. answered g.K.FarObject.enc g.V.FarObject.enc l honest seen log b w pass o new lawful key was follows
