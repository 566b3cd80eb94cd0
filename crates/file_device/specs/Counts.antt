-- How a fault changes the count of failures.
use Rattle.std.specs.Prelude.{ℕ, Err}
use Rattle.far_device.specs.Calls.{count_after}
use Rattle.far_device.specs.declared.fault.DeviceFault.{DeviceFault}

abbrev pub count_after_fault : DeviceFault → ℕ → ℕ
count_after_fault fault count = count_after {T = Unit {0}} (Err fault) count
