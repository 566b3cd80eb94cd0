use Rattle.std.proofs.Common.{[], ◌∷◌, ◌++◌, ◌≤◌, suc, length, take, List, ℕ, sym, ap, ◌∙◌, arith}
use Rattle.std.proofs.lemmas.List.{take_all}
use Rattle.std.specs.List.{flat_map}
use Rattle.resp.specs.Replies.{Token, token}
use Rattle.far_server.specs.Lists.{told_key, told_keys}
use Rattle.far_server.proofs.Pushed.{more_tokens}
use Rattle.far_server.proofs.Listing.{next_told}
use Rattle.far_server.proofs.all_keys.push_keys.Goals as goal

pub loop-key-preserved : goal.loop-key-preserved
loop-key-preserved c =
    let all = c.args.keys.now in
    let i = c.loop-key.key-index in
    let item = c.key-item.result in
    let lt : suc i ≤ length all = omega (arith, c.loop-key-test.true) in
    more_tokens c.args.reply.now.items (told_keys (take i all)) (told_key item ∷ []) c.loop-key.reply.items c.push_key.new.reply.items c.loop-key.invariant c.in-Ok.ensures.told
    ∙ ap (λ (ts : List Token). c.args.reply.now.items ++ flat_map token ts) (sym (next_told all i item lt c.key-item.is))

pub returns : goal.returns
returns c =
    let all = c.args.keys.now in
    c.loop-key.invariant
    ∙ ap (λ (keys : List (List ℕ)). c.args.reply.now.items ++ flat_map token (told_keys keys)) (take_all c.loop-key.key-index all (omega (arith, c.loop-key-test.false)))
