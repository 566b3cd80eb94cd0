-- Where a device's objects lie on its disk.
use Rattle.std.specs.Prelude.{◌≡◌, ◌≢◌, ℕ, List, length, map, cond, take, Bool, IsTrue, Option, Some, None, option_and_then, nat_eq}
use Rattle.std.specs.Option.{option_map}
use Rattle.std.specs.Map.{lookup}
use Rattle.std.specs.FinMap.{from_entries}
use Rattle.std.specs.declared.random_state.RandomState.{RandomState}
use Rattle.far_device.specs.DeviceState.{DeviceState, Contents}
use Rattle.far_device.specs.Calls.{Labels}
use Rattle.digests.specs.Digests.{digest_under}
use Rattle.file_device.specs.declared.slot.Slot.{Slot}
use Rattle.file_device.specs.declared.place.Place.{Place}
use Rattle.file_device.specs.declared.ledger.Ledger.{Ledger}
use Rattle.file_device.specs.Classes.{class_of}
use Rattle.file_device.specs.Owners.{owner_in}

-- what was written there
abbrev pub bytes_at : Place → List ℕ
bytes_at place = place.written.value.items

abbrev pub slot_of : Place → Slot
slot_of place = record { class = class_of place.len; number = place.number }

-- where the index has an object
abbrev pub place_of : List (ℕ × Place) → ℕ → Option Place
place_of entries id = lookup (nat_eq id) entries

-- the label that the index has of each object
abbrev pub labels_of : List (ℕ × Place) → Labels
labels_of entries id = option_and_then (λ (place : Place). place.label) (place_of entries id)

-- what the index says that the device holds
abbrev pub contents_of : List (ℕ × Place) → Contents
contents_of entries = from_entries (map (λ entry. (entry.0, bytes_at entry.1)) entries)

abbrev pub state_of : List (ℕ × Place) → ℕ → DeviceState
state_of entries failures = record { contents = contents_of entries; failures = failures }

-- new has this at the id, and elsewhere what old has
abbrev pub ChangesAt : List (ℕ × Place) → List (ℕ × Place) → ℕ → Option Place → Type 0
ChangesAt old new id found = (other : ℕ) → place_of new other ≡ cond (nat_eq id other) found (place_of old other)

-- the same place, without a label
abbrev pub unlabelled : Place → Place
unlabelled place = record { number = place.number; len = place.len; digest = place.digest; label = None; written = place.written; short = place.short }

-- new has what old has, but no label at the id
abbrev pub Unlabels : List (ℕ × Place) → List (ℕ × Place) → ℕ → Type 0
Unlabels old new id = ChangesAt old new id (option_map unlabelled (place_of old id))

-- no object lies in the slot
abbrev pub IsFree : List (ℕ × Place) → Slot → Type 0
IsFree entries slot = (id : ℕ) (place : Place) → place_of entries id ≡ Some place → slot_of place ≢ slot

-- no object lies in a slot of the class
abbrev pub IsUnused : List (ℕ × Place) → ℕ → Type 0
IsUnused entries class = (id : ℕ) (place : Place) → place_of entries id ≡ Some place → class_of place.len ≢ class

-- each slot in use has its object's id as its owner
abbrev pub AreOwned : List (ℕ × Place) → List Ledger → Type 0
AreOwned entries ledgers = (id : ℕ) (place : Place) → place_of entries id ≡ Some place → owner_in ledgers (slot_of place) ≡ Some id

-- length and digest are those of what was written
abbrev pub IsSound : RandomState → Place → Type 0
IsSound keys place = (place.len ≡ length (bytes_at place)) × (place.digest ≡ digest_under keys (bytes_at place))

-- an honest disk keeps what was written
abbrev pub AreKept : Bool → (Slot → List ℕ) → RandomState → List (ℕ × Place) → Type 0
AreKept honest kept keys entries = (id : ℕ) (place : Place) → place_of entries id ≡ Some place
    → (IsTrue honest → take place.len (kept (slot_of place)) ≡ bytes_at place) × IsSound keys place
