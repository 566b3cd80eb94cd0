use Rattle.std.proofs.Common.{◌-◌, ◌≤◌}
use Rattle.farcalls.specs.Sessions.{Stays}
use Rattle.farcalls.specs.Answers.{AreEmpty}
use Rattle.farcalls.proofs.pairs.first_filled.Given as goal

abbrev pub invariant-loop-bucket : goal.invariant-loop-bucket
invariant-loop-bucket g l = AreEmpty g.S.Calls.limits l.from (l.bucket - l.from) (g.S.Calls.shown l.fn.me) (g.S.Calls.shown l.me) × Stays (g.S.Calls.shown l.fn.me) (g.S.Calls.shown l.me)
    × (l.bucket - l.from ≤ g.S.Calls.limits.buckets - l.from)
