use Rattle.std.proofs.Common.{◌≡◌, ◌+◌, vec_len}
use Rattle.lane_store.proofs.store.LaneStore.open.Given as goal

-- a lane for each device that is gone
abbrev pub invariant-loop-device : goal.invariant-loop-device
invariant-loop-device g l = vec_len l.lanes + l.device-iterator.rest.len ≡ vec_len l.fn.devices
