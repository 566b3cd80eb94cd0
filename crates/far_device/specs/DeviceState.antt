-- What a device holds, and how often it has failed.
use Rattle.std.specs.Prelude.{◌≡◌, ◌≢◌, ℕ, List}
use Rattle.std.specs.Ordering.{nat_cmp}
use Rattle.std.specs.FinMap.{FinMap, get}

-- a finite map from ids to bytes
abbrev pub Contents : Type 0
Contents = FinMap nat_cmp (List ℕ)

pub record DeviceState : Type 0 where
  pub contents : Contents
  pub failures : ℕ

-- at each id but this one, new has what old has there
abbrev pub SameExceptAt : Contents → Contents → ℕ → Type 0
SameExceptAt old new id = (other : ℕ) → other ≢ id → get new other ≡ get old other
