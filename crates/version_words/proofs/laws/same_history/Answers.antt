use Rattle.version_words.proofs.Histories.{same_calls}
use Rattle.version_words.proofs.laws.same_history.Goals as goal

pub returns : goal.returns
returns g c = λ front log passes pre same others between from to. same_calls front log passes pre same others between from to
