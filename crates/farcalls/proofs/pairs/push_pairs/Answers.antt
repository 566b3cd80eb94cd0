use Rattle.std.proofs.Common.{List, ℕ, ◌++◌, take}
use Rattle.std.specs.List.{flat_map}
use Rattle.resp.specs.Replies.{token}
use Rattle.farcalls.specs.Tokens.{pair_tokens}
use Rattle.farcalls.proofs.Pushed.{more_behind}
use Rattle.farcalls.proofs.pairs.push_pairs.Goals as goal

pub returns-in-Err-clause-more : goal.returns-in-Err-clause-more
returns-in-Err-clause-more c =
    let m = c.push_pair.ensures.more in
    let first : List ℕ = flat_map token (flat_map pair_tokens (take c.loop-pair.pair-index c.args.pairs.now)) in
    (first ++ m.0, more_behind c.args.out.now.items first m.0 c.loop-pair.out.items c.push_pair.new.out.items c.loop-pair.invariant m.1)
