use Rattle.std.proofs.Common.{◌≡◌, ◌++◌, take}
use Rattle.std.specs.Prelude.{map}
use Rattle.std.specs.List.{flat_map}
use Rattle.resp.specs.Replies.{token}
use Rattle.farcalls.specs.Tokens.{number_token}
use Rattle.farcalls.proofs.numbers.push_numbers.Given as goal

abbrev pub invariant-loop-n : goal.invariant-loop-n
invariant-loop-n l = l.out.items ≡ l.fn.out.items ++ flat_map token (map number_token (take l.n-index l.numbers))
