-- What a read gives that lost its last byte.
use Rattle.std.specs.Prelude.{ℕ, ◌-◌, List, length, take}

abbrev pub without_last : List ℕ → List ℕ
without_last bytes = take (length bytes - 1) bytes
