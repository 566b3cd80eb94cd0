use Rattle.std.proofs.Common.{◌≡◌, vec_len}
use Rattle.frame_cache.specs.Slots.{AreNumbered}
use Rattle.frame_cache.proofs.frames.Frames.open.Given as goal

-- so many slots as were counted, each with its number
abbrev pub invariant-loop-frame : goal.invariant-loop-frame
invariant-loop-frame g l = record { len : vec_len l.slots ≡ l.frame-counter; numbered : AreNumbered l.slots.items }
