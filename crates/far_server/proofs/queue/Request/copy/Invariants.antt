use Rattle.std.proofs.Common.{◌≡◌, ◌++◌, length}
use Rattle.resp.specs.Parsing.{AreWithin}
use Rattle.commands.specs.Arguments.{listed}
use Rattle.far_server.specs.Queues.{held}
use Rattle.far_server.proofs.queue.Request.copy.Given as goal

abbrev pub invariant-loop-argument : goal.invariant-loop-argument
invariant-loop-argument l = (listed l.fn.request ≡ held l.copy ++ listed l.rest) × AreWithin (length l.copy.bytes.items) l.copy.spans.items

abbrev pub decreases-loop-argument : goal.decreases-loop-argument
decreases-loop-argument l = length (listed l.rest)
