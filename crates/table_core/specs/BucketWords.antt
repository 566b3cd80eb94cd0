-- A bucket's word: a name and a place in one number.
use Rattle.std.specs.Prelude.{ℕ, ◌+◌, ◌*◌, ◌/◌, ◌%◌, ◌^◌}

abbrev pub name_of : ℕ → ℕ
name_of word = word / 2 ^ 24

abbrev pub place_of : ℕ → ℕ
place_of word = word % 2 ^ 24

abbrev pub pack : ℕ → ℕ → ℕ
pack name place = name * 2 ^ 24 + place

-- the place of contents without a pair
abbrev pub empty_place : ℕ
empty_place = 16777214

-- the place of what lies on the device
abbrev pub far_place : ℕ
far_place = 16777215
