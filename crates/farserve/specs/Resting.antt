-- A device over a store that rests.
use Rattle.std.specs.Prelude.{ℕ, ◌+◌, ◌-◌, ◌^◌, min}
use Rattle.far_device.specs.DeviceState.{DeviceState}
use Rattle.resp_device.specs.declared.device.RespDevice.{RespDevice}
use Rattle.resp_device.specs.Devices.{state_in}

-- what the device holds over these pipes, and its failures with the calls that were not made
abbrev pub resting_state : {P : Type 0} → RespDevice P → ℕ → DeviceState
resting_state device rested = record {
  contents = (state_in device).contents;
  failures = min ((state_in device).failures + rested) (2 ^ 64 - 1);
}
