use Rattle.std.proofs.Common.{List, ℕ, take}
use Rattle.std.specs.Prelude.{map}
use Rattle.std.specs.List.{flat_map}
use Rattle.resp.specs.Replies.{token}
use Rattle.farcalls.specs.Tokens.{number_token}
use Rattle.farcalls.proofs.Pushed.{kept_behind}
use Rattle.farcalls.proofs.numbers.push_numbers.Goals as goal

pub returns-in-Err-clause-more : goal.returns-in-Err-clause-more
returns-in-Err-clause-more c =
    let first : List ℕ = flat_map token (map number_token (take c.loop-n.n-index c.args.numbers.now)) in
    kept_behind c.args.out.now.items first c.loop-n.out.items c.push_count_of.new.out.items c.loop-n.invariant c.in-Err.ensures.kept
