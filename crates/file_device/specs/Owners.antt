-- Which id has a slot.
use Rattle.std.specs.Prelude.{ℕ, List, Option, option_and_then, slice_get, unwrap_or}
use Rattle.std.specs.Option.{option_map}
use Rattle.file_device.specs.declared.ledger.Ledger.{Ledger}
use Rattle.file_device.specs.declared.slot.Slot.{Slot}
use Rattle.file_device.specs.Ledgers.{entry_at, count_of}

-- what the ledger of the slot's class has at its number
abbrev pub owner_in : List Ledger → Slot → Option ℕ
owner_in ledgers slot = option_and_then (λ (ledger : Ledger). entry_at ledger slot.number) (slice_get ledgers slot.class)

-- how many numbers the class has
abbrev pub count_in : List Ledger → ℕ → ℕ
count_in ledgers class = unwrap_or (option_map (λ (ledger : Ledger). count_of ledger) (slice_get ledgers class)) 0
