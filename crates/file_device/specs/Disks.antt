-- What is seen of a disk in files.
use Rattle.std.specs.Prelude.{ℕ, List}
use Rattle.file_device.specs.declared.file_disk.FileDisk.{FileDisk}
use Rattle.file_device.specs.declared.slot.Slot.{Slot}
use Rattle.file_device.specs.Files.{slot_bytes}

-- what each slot has, by the bytes of a file
abbrev pub slots_in : {D F : Type 0} → (F → ℕ → ℕ) → FileDisk D F → Slot → List ℕ
slots_in byte disk slot = slot_bytes byte disk.files slot
