use Rattle.std.proofs.Common.{arith}
use Rattle.far_object.proofs.Comparing.{ended_first, ended_second}
use Rattle.far_object.proofs.traits.FarObject.compare_to_bytes.Goals as goal

pub returns-then-i-count : goal.returns-then-i-count
returns-then-i-count g c = ended_first (g.Self.FarObject.enc c.args.self.now) c.args.bytes.now c.loop-i.i (omega arith) (omega arith) c.loop-i.invariant.1

pub returns-else-count-bytes : goal.returns-else-count-bytes
returns-else-count-bytes g c = ended_second (g.Self.FarObject.enc c.args.self.now) c.args.bytes.now c.loop-i.i (omega arith) (omega arith) c.loop-i.invariant.1
