use Rattle.std.proofs.Common.{◌≡◌, ◌∷◌, ℕ, List, length, refl, ◌∙◌, rules}
use Rattle.std.specs.Prelude.{map}
use Rattle.resp.specs.Replies.{Count}
use Rattle.commands.specs.Arguments.{listed}
use Rattle.farcalls.specs.Tokens.{value_token}
use Rattle.farcalls.proofs.Pushed.{cut}
use Rattle.farcalls.proofs.several_keys.answer_get_many.Goals as goal

pub returns-in-Ok : goal.returns-in-Ok
returns-in-Ok g c =
    let got = c.in-Ok.ensures.got in
    (Count (length (listed c.args.keys)) ∷ map value_token got.0, got.1, (got.0, got.2, refl))

pub returns-in-Err : goal.returns-in-Err
returns-in-Err g c =
    let m = c.get_each.ensures.more in
    let len : c.len-before.result ≡ length c.args.out.now.items = search rules in
    (c.truncate.ensures.items ∙ cut c.len-before.result c.args.out.now.items m.0 c.get_each.new.out.items len m.1, c.in-Err.ensures.fault)
