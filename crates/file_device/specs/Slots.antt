-- What the slots of a disk in the process keep.
use Rattle.std.specs.Prelude.{ℕ, List, [], Option, Some, None, nat_eq, slice_get}
use Rattle.std.specs.HashMap.{HashMap, get}
use Rattle.std.specs.Global.{Vec}
use Rattle.file_device.specs.declared.slot.Slot.{Slot}

abbrev pub bytes_or_none : Option (Vec ℕ) → List ℕ
bytes_or_none None = []
bytes_or_none (Some bytes) = bytes.items

-- what a class keeps at a number
abbrev pub bytes_at_number : {S : Type 0} → Option (HashMap ℕ (Vec ℕ) S) → ℕ → List ℕ
bytes_at_number None number = []
bytes_at_number (Some numbers) number = bytes_or_none (get nat_eq numbers number)

abbrev pub bytes_in : {S : Type 0} → List (HashMap ℕ (Vec ℕ) S) → Slot → List ℕ
bytes_in classes slot = bytes_at_number (slice_get classes slot.class) slot.number
