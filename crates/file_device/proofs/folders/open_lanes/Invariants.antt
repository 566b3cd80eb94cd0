use Rattle.std.proofs.Common.{◌≡◌, vec_len}
use Rattle.file_device.proofs.folders.open_lanes.Given as goal

abbrev pub invariant-loop-lane : goal.invariant-loop-lane
invariant-loop-lane g l = vec_len l.devices ≡ l.lane
