-- Laws of maps and of lawful logs, which public functions state.
use Rattle.std.specs.Prelude.{◌≡◌, ℕ, ◌<◌, IsTrue, List}
use Rattle.std.specs.Map.{keys_of}
use Rattle.std.specs.List.Sorted.{IsStrictlySortedBy, IsPermutation, IsSortedBy}
use Rattle.std.specs.Ordering.{is_lt}
use Rattle.far_object.specs.Buckets.{key_cmp, bucket}
use Rattle.table_core.specs.Maps.{value_at, at_bucket, joined, map_of, of_key, last_left}
use Rattle.table_core.specs.Logs.{history}
use Rattle.table_core.specs.Lawful.{standing, IsLawful}
use Rattle.table_core.specs.declared.event.Event.{Event}
use Rattle.table_core.specs.declared.limits.Limits.{Limits}
use Rattle.table_core.specs.declared.operation.Operation.{Operation}

module _ (K V : Type 0) (ek : K → List ℕ) (ev : V → List ℕ) where
  -- the keys of a history's map strictly rise
  abbrev pub MapsRise : Type 0
  MapsRise = (calls : List (ℕ × Operation K V)) → IsStrictlySortedBy (key_cmp ek) (keys_of (map_of ek ev calls))

  -- what the map of a history has at a key is what the last of the key's operations which wrote it left there
  abbrev pub LastWriteStands : Type 0
  LastWriteStands = (calls : List (ℕ × Operation K V)) (k : K) → value_at ek k (map_of ek ev calls) ≡ last_left ev (of_key ek k calls)

  -- in a lawful log the contents of a bucket's word are the map of the history at that bucket
  abbrev pub ContentsAreMap : Type 0
  ContentsAreMap = (l : Limits) (log : List (Event K V)) (b : ℕ) → IsTrue l.honest → IsLawful ek ev l log
      → standing ek ev l log b ≡ at_bucket ek l.buckets b (map_of ek ev (history log))

  -- the same by key
  abbrev pub ContentsAnswer : Type 0
  ContentsAnswer = (l : Limits) (log : List (Event K V)) (k : K) → IsTrue l.honest → IsLawful ek ev l log
      → value_at ek k (standing ek ev l log (bucket ek l.buckets k)) ≡ value_at ek k (map_of ek ev (history log))

  -- the pairs of all buckets, sorted by key, are the map
  abbrev pub BucketsMakeMap : Type 0
  BucketsMakeMap = (calls : List (ℕ × Operation K V)) (buckets : ℕ) (es : List (K × V)) → 0 < buckets
      → IsPermutation (joined (λ b. at_bucket ek buckets b (map_of ek ev calls)) buckets) es
      → IsSortedBy (λ x y. is_lt (key_cmp ek x.0 y.0)) es
      → es ≡ map_of ek ev calls
