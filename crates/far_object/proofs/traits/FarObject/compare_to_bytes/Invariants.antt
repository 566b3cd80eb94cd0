use Rattle.std.proofs.Common.{◌≤◌}
use Rattle.far_object.proofs.Comparing.{IsOpen}
use Rattle.far_object.proofs.traits.FarObject.compare_to_bytes.Given as goal

abbrev pub invariant-loop-i : goal.invariant-loop-i
invariant-loop-i g l = (l.i ≤ l.count) × IsOpen (g.Self.FarObject.enc l.self) l.bytes l.i
