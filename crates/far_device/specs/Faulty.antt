-- A device that fails one of its calls.
use Rattle.std.specs.Prelude.{ℕ, ◌+◌, ◌-◌, ◌^◌, min}
use Rattle.far_device.specs.DeviceState.{DeviceState}

-- due is the place of the failing call among the counted calls to come, from 1, or 0 where none is to come
pub record Faulty (D : Type 0) : Type 0 where
  pub inner : D
  pub due : ℕ
  pub failed : ℕ

-- the inner device's contents, and its failures with this device's own
abbrev pub faulty_state : {D : Type 0} → (D → DeviceState) → Faulty D → DeviceState
faulty_state state d = record {
  contents = (state d.inner).contents;
  failures = min ((state d.inner).failures + d.failed) (2 ^ 64 - 1);
}

-- after the counted call that fails: the inner device stays
abbrev pub after_failed : {D : Type 0} → Faulty D → Faulty D
after_failed d = record { inner = d.inner; due = 0; failed = min (d.failed + 1) (2 ^ 64 - 1) }

-- after another counted call, which leaves the inner device so
abbrev pub after_passed : {D : Type 0} → Faulty D → D → Faulty D
after_passed d inner = record { inner = inner; due = d.due - 1; failed = d.failed }

-- after a call that isn't counted, which leaves the inner device so
abbrev pub after_uncounted : {D : Type 0} → Faulty D → D → Faulty D
after_uncounted d inner = record { inner = inner; due = d.due; failed = d.failed }
