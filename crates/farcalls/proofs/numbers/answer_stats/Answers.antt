use Rattle.std.proofs.Common.{◌≡◌, ◌∷◌, length, refl}
use Rattle.std.specs.Prelude.{map}
use Rattle.resp.specs.Replies.{Count}
use Rattle.farcalls.specs.Tokens.{number_token}
use Rattle.farcalls.proofs.numbers.answer_stats.Goals as goal

pub returns-in-Ok : goal.returns-in-Ok
returns-in-Ok g c =
    let ns = c.numbers_of-numbers.result in
    let long : length ns ≡ 23 = search in
    (Count 23 ∷ map number_token ns, c.in-Ok.ensures.pushed, (refl, (ns, long, refl)))
