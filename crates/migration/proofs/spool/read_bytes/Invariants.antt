use Rattle.std.proofs.Common.{◌≡◌, []}
use Rattle.migration.proofs.spool.read_bytes.Given as goal

abbrev pub invariant-loop-i : goal.invariant-loop-i
invariant-loop-i g l = (l.bytes.items ≡ []) × ((g.D.Device.state l.device).contents ≡ (g.D.Device.state l.fn.device).contents)
