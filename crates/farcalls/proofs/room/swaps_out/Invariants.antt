use Rattle.farcalls.specs.Sessions.{Stays}
use Rattle.farcalls.proofs.room.swaps_out.Given as goal

abbrev pub invariant-loop : goal.invariant-loop
invariant-loop g l = Stays (g.S.Calls.shown l.fn.me) (g.S.Calls.shown l.me)
