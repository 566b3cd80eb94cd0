-- What is seen of a device.
use Rattle.std.specs.Prelude.{ℕ, Option}
use Rattle.std.specs.Option.{option_map}
use Rattle.std.specs.declared.random_state.RandomState.{RandomState}
use Rattle.far_device.specs.DeviceState.{DeviceState, Contents}
use Rattle.far_device.specs.Calls.{Labels}
use Rattle.file_device.specs.declared.device.FileDevice.{FileDevice}
use Rattle.file_device.specs.declared.disk.Disk.{Ghosts}
use Rattle.file_device.specs.declared.place.Place.{Place}
use Rattle.file_device.specs.declared.slot.Slot.{Slot}
use Rattle.file_device.specs.Places.{contents_of, labels_of, place_of, slot_of}

module _ {K : Type 0} {D : Ghosts K} where
  -- the bytes of each id
  abbrev pub contents_in : FileDevice K D → Contents
  contents_in device = contents_of device.catalog.index.entries

  abbrev pub state_in : FileDevice K D → DeviceState
  state_in device = record { contents = contents_in device; failures = device.failures.count }

  -- the label of each id that has one
  abbrev pub labels_in : FileDevice K D → Labels
  labels_in device = labels_of device.catalog.index.entries

  -- the keys of the digests
  abbrev pub keys_in : FileDevice K D → RandomState
  keys_in device = device.keys

  -- the slot in which an id's object lies
  abbrev pub slot_in : FileDevice K D → ℕ → Option Slot
  slot_in device id = option_map (λ (place : Place). slot_of place) (place_of device.catalog.index.entries id)
