-- Counts as values write them.
use Rattle.std.specs.Prelude.{ℕ, List, length, take, nat_le, if◌then◌else◌, Option, Some, None}
use Rattle.std.specs.Int.{w64, from_be_bytes}

-- the number that eight bytes write, the highest first
abbrev pub count_of : List ℕ → ℕ
count_of value = if nat_le 8 (length value) then from_be_bytes w64 (take 8 value) else 0

-- the count of a word that was found so
abbrev pub count_found : Option (List ℕ) → ℕ
count_found (Some value) = count_of value
count_found None = 0
