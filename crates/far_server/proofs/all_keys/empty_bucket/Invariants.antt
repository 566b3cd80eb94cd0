use Rattle.std.proofs.Common.{take}
use Rattle.far_server.specs.Sessions.{Session}
use Rattle.far_server.specs.Flushes.{Finds, AreTaken}
use Rattle.far_server.proofs.all_keys.empty_bucket.Given as goal

abbrev pub invariant-loop-key : goal.invariant-loop-key
invariant-loop-key g l = (mid : Session) × Finds g.S.Calls.limits l.bucket (g.S.Calls.shown l.fn.me) mid l.key-items × AreTaken g.S.Calls.limits l.database (take l.key-index l.key-items) mid (g.S.Calls.shown l.me)
