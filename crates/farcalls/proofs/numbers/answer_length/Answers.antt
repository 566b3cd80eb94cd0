use Rattle.std.proofs.Common.{[], ◌∷◌, refl}
use Rattle.farcalls.specs.Tokens.{number_token}
use Rattle.farcalls.proofs.numbers.answer_length.Goals as goal

pub returns-in-Ok : goal.returns-in-Ok
returns-in-Ok g c = (number_token c.sum.result ∷ [], c.in-Ok.ensures.pushed, (refl, (c.sum.result, refl)))
