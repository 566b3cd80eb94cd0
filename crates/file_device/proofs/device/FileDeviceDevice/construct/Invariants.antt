use Rattle.std.proofs.Common.{◌≡◌, []}
use Rattle.file_device.proofs.device.FileDeviceDevice.construct.Given as goal

abbrev pub invariant-loop-class : goal.invariant-loop-class
invariant-loop-class g l =
    (l.self.catalog.index.entries ≡ []) × (l.self.failures.count ≡ l.fn.self.failures.count)
