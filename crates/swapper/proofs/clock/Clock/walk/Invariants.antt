use Rattle.std.proofs.Common.{◌≡◌, ◌<◌, length}
use Rattle.swapper.specs.Meetings.{Asks}
use Rattle.swapper.proofs.Clocks.{Walked}
use Rattle.swapper.proofs.clock.Clock.walk.Given as goal

abbrev pub invariant-loop-k : goal.invariant-loop-k
invariant-loop-k g l = record {
  walked : Walked l.fn.self.marks l.fn.self.hand (g.A.FrameFlags.may_hold l.asked) (g.A.FrameFlags.may_touch l.asked) l.self.marks l.frame l.spared l._k;
  asks : Asks g.A.FrameFlags.goes (length l.fn.self.marks) l.fn.self.hand l._k l.fn.state l.state;
  hand : l.self.hand ≡ l.fn.self.hand;
  within : l.fn.self.hand < length l.fn.self.marks;
  count : l.count ≡ length l.fn.self.marks;
}
