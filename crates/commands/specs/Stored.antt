-- The form of a stored value.
use Rattle.std.specs.Prelude.{ℕ, List, ◌++◌}
use Rattle.std.specs.Int.{w64, to_be_bytes}

-- its deadline in eight bytes, the highest first, and its bytes
abbrev pub stored : ℕ → List ℕ → List ℕ
stored deadline value = to_be_bytes w64 deadline ++ value
