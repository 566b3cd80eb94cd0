-- Parts of a value by places that may count from its end.
use Rattle.std.specs.Prelude.{ℕ, ℤ, pos, negsuc, ◌-◌, ◌<◌, ◌≤◌, suc}
use Rattle.commands.specs.declared.range.Range.{Range}

-- -1 is the last of so many
abbrev pub place : ℤ → ℕ → ℕ
place (pos n) len = n
place (negsuc n) len = len - suc n

-- where both count from the end, the first is not behind the last
abbrev pub AreInOrder : ℤ → ℤ → Type 0
AreInOrder (negsuc m) (negsuc n) = n ≤ m
AreInOrder first last = Unit {0}

-- a part of so many bytes, which has the byte at a place just where the place is from `first` to `last`
pub record IsRange (first last : ℤ) (len : ℕ) (range : Range) : Type 0 where
  pub ordered : range.from ≤ range.to
  pub within : range.to ≤ len
  pub inside : (k : ℕ) → range.from ≤ k → k < range.to → AreInOrder first last × (place first len ≤ k) × (k ≤ place last len)
  pub whole : (k : ℕ) → k < len → AreInOrder first last → place first len ≤ k → k ≤ place last len → (range.from ≤ k) × (k < range.to)
