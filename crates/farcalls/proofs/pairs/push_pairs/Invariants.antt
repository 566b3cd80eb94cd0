use Rattle.std.proofs.Common.{◌≡◌, ◌++◌, take}
use Rattle.std.specs.List.{flat_map}
use Rattle.resp.specs.Replies.{token}
use Rattle.farcalls.specs.Tokens.{pair_tokens}
use Rattle.farcalls.proofs.pairs.push_pairs.Given as goal

abbrev pub invariant-loop-pair : goal.invariant-loop-pair
invariant-loop-pair l = l.out.items ≡ l.fn.out.items ++ flat_map token (flat_map pair_tokens (take l.pair-index l.pairs))
