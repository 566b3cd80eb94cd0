use Rattle.std.proofs.Common.{◌+◌, ◌*◌, pos, [], ◌∷◌, ◌++◌, length}
use Rattle.std.specs.List.{flat_map}
use Rattle.resp.specs.Replies.{Count, Number, token}
use Rattle.farcalls.specs.Tokens.{pair_tokens}
use Rattle.farcalls.proofs.Pushed.{on_ok, more_tokens, more_behind}
use Rattle.farcalls.proofs.pairs.push_page.Goals as goal

pub returns-in-Ok-clause-pushed : goal.returns-in-Ok-clause-pushed
returns-in-Ok-clause-pushed c =
    let old = c.args.out.now.items in
    let mid = c.push_head.new.out.items in
    let head = Count (2 * length c.args.pairs.now + 1) ∷ Number (pos c.args.next) ∷ [] in
    on_ok c.push_pairs.result (λ is. more_tokens old head (flat_map pair_tokens c.args.pairs.now) mid c.push_pairs.new.out.items c.in-Ok.ensures.pushed is) c.push_pairs.ensures.pushed

pub returns-in-Ok-clause-more : goal.returns-in-Ok-clause-more
returns-in-Ok-clause-more c =
    let one = c.in-Ok.ensures.more in
    let two = c.push_pairs.ensures.more in
    (one.0 ++ two.0, more_behind c.args.out.now.items one.0 two.0 c.push_head.new.out.items c.push_pairs.new.out.items one.1 two.1)
