-- Where a slot is in the file of its class.
use Rattle.std.specs.Prelude.{◌≡◌, ℕ, ◌+◌, ◌*◌, ◌^◌, ◌≤◌, ◌<◌}
use Rattle.file_device.specs.declared.slot.Slot.{Slot}

-- how many bytes it has
abbrev pub size_of : Slot → ℕ
size_of slot = 64 * 2 ^ slot.class

-- this byte of the file belongs to the slot
abbrev pub IsIn : Slot → ℕ → Type 0
IsIn slot at = (slot.number * size_of slot ≤ at) × (at < (slot.number + 1) * size_of slot)

-- no byte of a file belongs to two slots of its class
abbrev pub AreApart : Slot → Slot → Type 0
AreApart one other = one.class ≡ other.class → (at : ℕ) → IsIn one at → IsIn other at → one.number ≡ other.number
