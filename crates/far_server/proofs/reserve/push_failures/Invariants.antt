use Rattle.std.proofs.Common.{◌≡◌, ◌++◌, replicate}
use Rattle.std.specs.List.{flat_map}
use Rattle.resp.specs.Replies.{Failure, token}
use Rattle.far_server.proofs.reserve.push_failures.Given as goal

abbrev pub invariant-loop-at : goal.invariant-loop-at
invariant-loop-at l = l.reply.items ≡ l.fn.reply.items ++ flat_map token (replicate l.at (Failure l.text))
