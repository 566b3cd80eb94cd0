use Rattle.std.proofs.Common.{List, ℕ, take}
use Rattle.std.specs.Prelude.{map}
use Rattle.std.specs.List.{flat_map}
use Rattle.resp.specs.Replies.{token}
use Rattle.farcalls.specs.Tokens.{value_token}
use Rattle.farcalls.proofs.Pushed.{kept_behind}
use Rattle.farcalls.proofs.several_keys.push_values.Goals as goal

pub returns-in-Err-clause-more : goal.returns-in-Err-clause-more
returns-in-Err-clause-more c =
    let first : List ℕ = flat_map token (map value_token (take c.loop-value.value-index c.args.values.now)) in
    kept_behind c.args.out.now.items first c.loop-value.out.items c.push_one.new.out.items c.loop-value.invariant c.in-Err.ensures.kept
