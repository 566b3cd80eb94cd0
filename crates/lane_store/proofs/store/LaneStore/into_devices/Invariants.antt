use Rattle.std.proofs.Common.{◌≡◌, ◌+◌, vec_len}
use Rattle.lane_store.proofs.store.LaneStore.into_devices.Given as goal

-- a device for each lane that is gone
abbrev pub invariant-loop-lane : goal.invariant-loop-lane
invariant-loop-lane g l = vec_len l.devices + l.lane-iterator.rest.len ≡ vec_len l.fn.devices + l.fn.self
