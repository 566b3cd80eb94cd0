-- Marks as bits in words of 64.
use Rattle.std.specs.Prelude.{ℕ, ◌/◌, ◌%◌, ◌==◌, Bool, List, map, get_or}
use Rattle.std.specs.Int.{bit_at}
use Rattle.std.specs.List.{range_with_len}

-- whether the bit of this number is set
abbrev pub has_mark : List ℕ → ℕ → Bool
has_mark words k = bit_at (get_or words (k / 64) 0) (k % 64) == 1

-- the marks of the first n numbers
abbrev pub marks_of : List ℕ → ℕ → List Bool
marks_of words n = map (λ k. has_mark words k) (range_with_len 0 n)
