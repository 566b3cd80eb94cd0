-- The pairs of objects in memory and on a device, and what taking some of them out leaves.
use Rattle.std.specs.Prelude.{zero, suc, ◌≡◌, ℕ, Bool, IsTrue, List, [], ◌++◌, ◌∷◌, Option, Some, None}
use Rattle.std.specs.List.Sorted.{IsPermutation}
use Rattle.std.specs.FinMap.{get}
use Rattle.far_object.specs.Decoded.{decoded_pairs}
use Rattle.far_device.specs.DeviceState.{Contents}
use Rattle.migration.specs.declared.fault.Untaken.{Untaken}
use Rattle.migration.specs.declared.fault.Untaken.TheVariants.{Memory, Lost}

-- the pairs of all objects, one object behind the other
abbrev pub all_of : {X : Type 0} → List (List X) → List X
all_of [] = []
all_of (pairs ∷ more) = pairs ++ all_of more

module _ {K V : Type 0} (ek : K → List ℕ) (ev : V → List ℕ) (dk : List ℕ → Option K) (dv : List ℕ → Option V) where
  -- the pairs of an object's bytes, where there are any
  abbrev pub pairs_at : Option (List ℕ) → List (K × V)
  pairs_at None = []
  pairs_at (Some bytes) = decoded_pairs ek ev dk dv bytes

  -- the pairs of the objects that lie under the ids below this one
  abbrev pub pairs_below : Contents → ℕ → List (K × V)
  pairs_below contents zero = []
  pairs_below contents (suc id) = pairs_below contents id ++ pairs_at (get contents id)

-- some pairs went, and are handed out where the device gives what was written
pub record Takes {X : Type 0} (is_honest : Bool) (old new pairs : List X) : Type 0 where
  pub gone : List X
  pub is : IsPermutation old (gone ++ new)
  pub read : IsTrue is_honest → pairs ≡ gone

-- some pairs went
pub record Loses {X : Type 0} (old new : List X) : Type 0 where
  pub gone : List X
  pub is : IsPermutation old (gone ++ new)

-- what is left where none are handed out
abbrev pub IsUntaken : {X : Type 0} → Untaken → List X → List X → Type 0
IsUntaken Memory old new = new ≡ old
IsUntaken Lost old new = Loses old new
