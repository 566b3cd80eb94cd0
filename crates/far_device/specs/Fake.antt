-- What a hash map's entries hold, as a finite map.
use Rattle.std.specs.Prelude.{ℕ, List, map}
use Rattle.std.specs.FinMap.{from_entries}
use Rattle.std.specs.Global.{Vec}
use Rattle.far_device.specs.DeviceState.{DeviceState, Contents}

-- the bytes of each id's vector
abbrev pub contents_of : List (ℕ × Vec ℕ) → Contents
contents_of entries = from_entries (map (λ entry. (entry.0, entry.1.items)) entries)

-- a device in the process never fails
abbrev pub fake_state : Contents → DeviceState
fake_state contents = record { contents = contents; failures = 0 }
