use Rattle.std.proofs.Common.{◌≡◌, [], ◌∷◌, refl, inl, inr}
use Rattle.resp.specs.Replies.{Nothing}
use Rattle.far_server.specs.Lists.{told_key}
use Rattle.far_server.proofs.Pushed.{on_ok}
use Rattle.far_server.proofs.OneReply.{one}
use Rattle.far_server.proofs.random_key.push_drawn.Goals as goal

pub returns-in-Some-clause-told : goal.returns-in-Some-clause-told
returns-in-Some-clause-told c = on_ok c.push_key.result (λ is. (told_key c.in-Some.key.now ∷ [], is, inr (c.in-Some.key.now, c.in-Some.ensures.member, refl))) c.push_key.ensures.told

pub returns-in-Some-clause-said : goal.returns-in-Some-clause-said
returns-in-Some-clause-said c = on_ok c.push_key.result (λ is. record { tokens = told_key c.in-Some.key.now ∷ []; whole = one (told_key c.in-Some.key.now) refl; spelled = is }) c.push_key.ensures.told

pub returns-in-None-clause-told : goal.returns-in-None-clause-told
returns-in-None-clause-told c =
    let none : c.args.keys.now ≡ [] = c.in-None.ensures.none.0 refl in
    on_ok c.push_one_nothing.result (λ is. (Nothing ∷ [], is, inl (none, refl))) c.push_one_nothing.ensures.exact
