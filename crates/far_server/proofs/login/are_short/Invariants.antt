use Rattle.std.proofs.Common.{length}
use Rattle.commands.specs.Arguments.{listed}
use Rattle.far_server.specs.Logins.{AreShort, HasLong}
use Rattle.far_server.proofs.login.are_short.Given as goal

abbrev pub invariant-loop-argument : goal.invariant-loop-argument
invariant-loop-argument l = (AreShort (listed l.rest) → AreShort (listed l.fn.request)) × (HasLong (listed l.rest) → HasLong (listed l.fn.request))

abbrev pub decreases-loop-argument : goal.decreases-loop-argument
decreases-loop-argument l = length (listed l.rest)
