-- A map's pairs as one list of bytes, and what is found in it.
use Rattle.std.specs.Prelude.{◌≡◌, ℕ, ◌+◌, ◌≤◌, not, if◌then◌else◌, List, [], ◌∷◌, ◌++◌, length, Option, Some, None}
use Rattle.std.specs.Int.{w32, to_be_bytes}
use Rattle.std.specs.List.{AllByRecursion, filter, between}
use Rattle.std.specs.List.Sorted.{IsStrictlySortedBy}
use Rattle.std.specs.Map.{keys_of, lookup}
use Rattle.std.specs.BTreeMap.{is_at}
use Rattle.std.specs.declared.cmp.Ordering.{Ordering}
use Rattle.std.specs.declared.ops.Range.{Range}
use Rattle.far_object.specs.Buckets.{key_cmp}

-- the most pairs of one object
abbrev pub most_pairs : ℕ
most_pairs = 1048576

module _ {K V : Type 0} (ek : K → List ℕ) (ev : V → List ℕ) where
  -- the pairs' bytes, one pair after another
  abbrev pub body_of : List (K × V) → List ℕ
  body_of [] = []
  body_of (e ∷ es) = ek e.0 ++ (ev e.1 ++ body_of es)

  -- their count, and then the pairs
  abbrev pub object_of : List (K × V) → List ℕ
  object_of es = to_be_bytes w32 (length es) ++ body_of es

  -- where the value of the key k is written, when the pairs begin at this place
  abbrev pub value_place_from : K → ℕ → List (K × V) → Option (Range ℕ)
  value_place_from k at [] = None
  value_place_from k at (e ∷ es) =
      if is_at (key_cmp ek k) e.0 then Some (record { start = at + length (ek e.0); end = at + length (ek e.0) + length (ev e.1) })
      else value_place_from k (at + length (ek e.0) + length (ev e.1)) es

  -- the same in an object: its pairs begin behind the count
  abbrev pub value_place : K → List (K × V) → Option (Range ℕ)
  value_place k es = value_place_from k 4 es

  -- what stands at this place of the object is the value of the key k, as it is written
  pub record IsValueAt (k : K) (es : List (K × V)) (r : Range ℕ) : Type 0 where
    pub value : V
    pub is : lookup (is_at (key_cmp ek k)) es ≡ Some value
    pub starts : r.start ≤ r.end
    pub ends : r.end ≤ length (object_of es)
    pub bytes : between r.start r.end (object_of es) ≡ ev value

-- an object's pairs, and the key that is looked for among them
pub record Sought (K V : Type 0) : Type 0 where
  pub pairs : List (K × V)
  pub key : K

abbrev pub sought : {K V : Type 0} → List (K × V) → K → Sought K V
sought es k = record { pairs = es; key = k }

-- the pairs without that of the key k
abbrev pub cut : {K V : Type 0} → (K → K → Ordering) → K → List (K × V) → List (K × V)
cut cmp k es = filter (λ e. not (is_at (cmp k) e.0)) es

module _ {K V : Type 0} (ek : K → List ℕ) (AK : K → Type 0) (AV : V → Type 0) where
  -- the pairs are those of a map that an object can say
  pub record IsMap (es : List (K × V)) : Type 0 where
    pub admitted : AllByRecursion (λ e. AK e.0 × AV e.1) es
    pub rising : IsStrictlySortedBy (key_cmp ek) (keys_of es)
    pub few : length es ≤ most_pairs
