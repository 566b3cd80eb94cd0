use Rattle.std.proofs.Common.{◌≡◌, ◌++◌, take}
use Rattle.std.specs.List.{flat_map}
use Rattle.resp.specs.Replies.{token}
use Rattle.far_server.specs.Lists.{told_keys}
use Rattle.far_server.proofs.all_keys.push_keys.Given as goal

abbrev pub invariant-loop-key : goal.invariant-loop-key
invariant-loop-key l = l.reply.items ≡ l.fn.reply.items ++ flat_map token (told_keys (take l.key-index l.keys))
