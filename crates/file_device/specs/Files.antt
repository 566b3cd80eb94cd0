-- What the files of a disk have.
use Rattle.std.specs.Prelude.{ℕ, ◌+◌, ◌*◌, ◌≤◌, List, map, Option, Some, None, slice_get}
use Rattle.std.specs.List.{range_with_len}
use Rattle.file_device.specs.declared.slot.Slot.{Slot}
use Rattle.file_device.specs.Offsets.{size_of}

-- so many bytes of a file, from a place on
abbrev pub bytes_from : (ℕ → ℕ) → ℕ → ℕ → List ℕ
bytes_from byte at count = map byte (range_with_len at count)

-- the place is not one of these: if it is not before them, it is after them
abbrev pub IsOutside : ℕ → ℕ → ℕ → Type 0
IsOutside at count place = at ≤ place → at + count ≤ place

-- the bytes of a file, which are all 0 before it is made
abbrev pub byte_of : {F : Type 0} → (F → ℕ → ℕ) → Option F → ℕ → ℕ
byte_of byte None place = 0
byte_of byte (Some file) place = byte file place

-- the bytes of the file of a class, if there is such a class
abbrev pub byte_in : {F : Type 0} → (F → ℕ → ℕ) → Option (Option F) → ℕ → ℕ
byte_in byte None place = 0
byte_in byte (Some file) place = byte_of byte file place

-- what the slot has in the file of its class
abbrev pub slot_bytes : {F : Type 0} → (F → ℕ → ℕ) → List (Option F) → Slot → List ℕ
slot_bytes byte files slot = bytes_from (byte_in byte (slice_get files slot.class)) (slot.number * size_of slot) (size_of slot)
