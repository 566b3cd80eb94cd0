-- Which class an object of some length goes to.
use Rattle.std.specs.Prelude.{ℕ, ◌-◌, ◌/◌}
use Rattle.std.specs.Int.Count.{count_leading_zeros}

-- the least class whose slots, of 64 * 2 ^ class bytes, are as long as this
abbrev pub class_of : ℕ → ℕ
class_of len = 32 - count_leading_zeros 32 ((len - 1) / 64)
