use Rattle.std.proofs.Common.{[], ◌∷◌, refl}
use Rattle.farcalls.specs.Tokens.{flag_token}
use Rattle.farcalls.proofs.numbers.answer_evict.Goals as goal

pub returns-in-Ok-push_flag : goal.returns-in-Ok-push_flag
returns-in-Ok-push_flag g c = (flag_token c.in-Ok.moved ∷ [], c.in-Ok-push_flag.ensures.pushed, (c.evict.ensures.goes, (c.in-Ok.moved, refl)))
