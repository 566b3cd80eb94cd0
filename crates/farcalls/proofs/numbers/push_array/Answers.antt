use Rattle.std.proofs.Common.{◌≡◌, ℕ, List, [], ◌∷◌, ◌++◌, sym, append-nil, ◌∙◌}
use Rattle.std.specs.Prelude.{map}
use Rattle.std.specs.List.{flat_map}
use Rattle.resp.specs.Replies.{Count, token}
use Rattle.farcalls.specs.Tokens.{number_token}
use Rattle.farcalls.proofs.Pushed.{on_ok, single, more_tokens, more_behind}
use Rattle.farcalls.proofs.numbers.push_array.Goals as goal

pub returns-in-Ok-clause-pushed : goal.returns-in-Ok-clause-pushed
returns-in-Ok-clause-pushed c =
    let old = c.args.out.now.items in
    let mid = c.push_count.new.out.items in
    on_ok c.push_numbers.result (λ is. more_tokens old (Count 23 ∷ []) (map number_token c.args.numbers.now) mid c.push_numbers.new.out.items (single old (Count 23) mid c.in-Ok.ensures.items) is) c.push_numbers.ensures.pushed

pub returns-in-Ok-clause-more : goal.returns-in-Ok-clause-more
returns-in-Ok-clause-more c =
    let two = c.push_numbers.ensures.more in
    let one = single c.args.out.now.items (Count 23) c.push_count.new.out.items c.in-Ok.ensures.items in
    (flat_map token (Count 23 ∷ []) ++ two.0, more_behind c.args.out.now.items (flat_map token (Count 23 ∷ [])) two.0 c.push_count.new.out.items c.push_numbers.new.out.items one two.1)
