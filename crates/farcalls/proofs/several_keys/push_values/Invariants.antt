use Rattle.std.proofs.Common.{◌≡◌, ◌++◌, take}
use Rattle.std.specs.Prelude.{map}
use Rattle.std.specs.List.{flat_map}
use Rattle.resp.specs.Replies.{token}
use Rattle.farcalls.specs.Tokens.{value_token}
use Rattle.farcalls.proofs.several_keys.push_values.Given as goal

abbrev pub invariant-loop-value : goal.invariant-loop-value
invariant-loop-value l = l.out.items ≡ l.fn.out.items ++ flat_map token (map value_token (take l.value-index l.values))
