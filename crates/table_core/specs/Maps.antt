-- The map of one thread: pairs in rising order of their keys' bytes, and what each operation answers and leaves.
use Rattle.std.specs.Prelude.{zero, suc, ℕ, ◌==◌, Bool, true, false, if◌then◌else◌, List, [], ◌++◌, Option, Some, None}
use Rattle.std.specs.List.{fold, filter}
use Rattle.std.specs.Ordering.{eq_by_cmp}
use Rattle.std.specs.Map.{lookup}
use Rattle.std.specs.BTreeMap.{insert_entry, is_at}
use Rattle.far_object.specs.Buckets.{key_cmp, bucket}
use Rattle.far_object.specs.Objects.{cut}
use Rattle.table_core.specs.declared.operation.Operation.{Operation}
use Rattle.table_core.specs.declared.operation.Operation.TheVariants.{Put, Get, Remove, PutIf}

module _ {K V : Type 0} where
  abbrev pub key_of : Operation K V → K
  key_of (Put k v) = k
  key_of (Get k) = k
  key_of (Remove k) = k
  key_of (PutIf k expected v) = k

-- the lists of the first n places, one after another
abbrev pub joined : {X : Type 0} → (ℕ → List X) → ℕ → List X
joined part zero = []
joined part (suc n) = joined part n ++ part n

module _ {K V : Type 0} (ek : K → List ℕ) where
  -- the value of a key
  abbrev pub value_at : K → List (K × V) → Option V
  value_at k m = lookup (is_at (key_cmp ek k)) m

  -- every operation answers the value that its key has before it
  abbrev pub reply : List (K × V) → Operation K V → Option V
  reply m op = value_at (key_of op) m

  -- the pairs whose keys are in the bucket
  abbrev pub at_bucket : ℕ → ℕ → List (K × V) → List (K × V)
  at_bucket buckets b m = filter (λ e. bucket ek buckets e.0 == b) m

module _ {V : Type 0} (ev : V → List ℕ) where
  -- a value is the expected one: none is none, and values are compared by their bytes
  abbrev pub is_met : Option V → Option V → Bool
  is_met None None = true
  is_met (Some x) (Some y) = eq_by_cmp (key_cmp ev) x y
  is_met _ _ = false

module _ {K V : Type 0} (ek : K → List ℕ) (ev : V → List ℕ) where
  -- the map after an operation
  abbrev pub after : List (K × V) → Operation K V → List (K × V)
  after m (Put k v) = insert_entry (key_cmp ek) m k v
  after m (Get k) = m
  after m (Remove k) = cut (key_cmp ek) k m
  after m (PutIf k expected v) = if is_met ev expected (value_at ek k m) then insert_entry (key_cmp ek) m k v else m

  -- the map after these calls, each a pass and its operation
  abbrev pub map_of : List (ℕ × Operation K V) → List (K × V)
  map_of history = fold (λ m call. after m call.1) [] history

-- ---- the same, seen from one key

module _ {K V : Type 0} (ek : K → List ℕ) where
  -- those operations that are on this key
  abbrev pub of_key : K → List (ℕ × Operation K V) → List (ℕ × Operation K V)
  of_key k history = filter (λ call. is_at (key_cmp ek k) (key_of call.1)) history

module _ {K V : Type 0} (ev : V → List ℕ) where
  -- what an operation on a key leaves there
  abbrev pub leaves : Option V → Operation K V → Option V
  leaves now (Put k v) = Some v
  leaves now (Get k) = now
  leaves now (Remove k) = None
  leaves now (PutIf k expected v) = if is_met ev expected now then Some v else now

  -- what the last of a key's operations which wrote it left there
  abbrev pub last_left : List (ℕ × Operation K V) → Option V
  last_left calls = fold (λ now call. leaves now call.1) None calls
