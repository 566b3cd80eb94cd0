-- What stands at the numbers of a ledger.
use Rattle.std.specs.Prelude.{ℕ, length, Option, slice_get}
use Rattle.file_device.specs.declared.ledger.Ledger.{Ledger}

abbrev pub entry_at : Ledger → ℕ → Option ℕ
entry_at ledger number = slice_get ledger.entries.items number

-- how many numbers a ledger has
abbrev pub count_of : Ledger → ℕ
count_of ledger = length ledger.entries.items
