-- A machine's tests of contents, one pair after another.
use Rattle.std.specs.Prelude.{◌≡◌, ℕ, ◌+◌, ◌<◌, ◌≤◌, ◌==◌, ◌&&◌, Bool, true, List, [], ◌∷◌, ◌++◌, Option, Some, None, option_map, slice_index, slice_set}
use Rattle.std.specs.Ordering.{is_lt, match_ordering}
use Rattle.std.specs.BTreeMap.{insert_entry}
use Rattle.far_object.specs.Buckets.{key_cmp, bucket}
use Rattle.far_object.specs.Objects.{cut}
use Rattle.table_core.specs.BucketWords.{name_of}
use Rattle.table_core.specs.Logs.{pairs_of}
use Rattle.table_core.specs.Machines.{MachineView, numbered}
use Rattle.table_core.specs.declared.fault.Rule.{Rule}
use Rattle.table_core.specs.declared.fault.Rule.TheVariants.{NotNewer, WrongContents}
use Rattle.table_core.specs.declared.effect.Effect.{Effect}
use Rattle.table_core.specs.declared.effect.Effect.TheVariants as effect
use Rattle.table_core.specs.declared.contents.Place.{Place}
use Rattle.table_core.specs.declared.contents.Place.TheVariants.{Gap, Here}

-- a place among so many pairs
abbrev pub IsWithin : ℕ → Place → Type 0
IsWithin count (Gap at) = at ≤ count
IsWithin count (Here at) = at < count

module _ {K : Type 0} (ek : K → List ℕ) where
  -- the key is above the last one, if there is one
  abbrev pub is_above : Option K → K → Bool
  is_above None k = true
  is_above (Some last) k = is_lt (key_cmp ek last k)

module _ {K V : Type 0} (ek : K → List ℕ) where
  -- where the pair of the key stands, or where it would go, behind those that are counted already
  abbrev pub place_from : K → ℕ → List (K × V) → Place
  place_from k at [] = Gap at
  place_from k at (e ∷ es) = match_ordering (key_cmp ek k e.0) (Gap at) (Here at) (place_from k (at + 1) es)

  -- the pairs with the effect on them
  abbrev pub with_effect : List (K × V) → Effect K V → List (K × V)
  with_effect es (effect.Puts k v) = insert_entry (key_cmp ek) es k.now v.now
  with_effect es (effect.Cuts k) = cut (key_cmp ek) k.now es
  with_effect es effect.Leaves = es

  -- the keys are of the bucket and rise, behind the last one
  abbrev pub belong : ℕ → ℕ → Option K → List (K × V) → Bool
  belong buckets b last [] = true
  belong buckets b last (e ∷ es) = (bucket ek buckets e.0 == b) && (is_above ek last e.0 && belong buckets b (Some e.0) es)

-- ---- a machine

module _ {K V : Type 0} where
  -- the contents of the bucket's word
  abbrev pub standing_at : MachineView K V → ℕ → List (K × V)
  standing_at m b = pairs_of (numbered m.names (name_of (slice_index m.words b)))

  -- the machine with one more name
  abbrev pub with_name : MachineView K V → ℕ → List (K × V) → MachineView K V
  with_name m b es = record { words = m.words; names = m.names ++ (b, es) ∷ []; passes = m.passes }

  -- the machine with the word installed, if there is one
  abbrev pub with_word : MachineView K V → ℕ → Option ℕ → MachineView K V
  with_word m b None = m
  with_word m b (Some w) = record { words = slice_set m.words b w; names = m.names; passes = m.passes }

  -- the word's name was drawn for the bucket and these contents, and is newer than the one that stands there
  pub record Installs (m : MachineView K V) (b w : ℕ) (es : List (K × V)) : Type 0 where
    pub named : numbered m.names (name_of w) ≡ Some (b, es)
    pub newer : name_of (slice_index m.words b) < name_of w

  -- or it was not drawn for the bucket, or is not newer
  abbrev pub IsUnfit : MachineView K V → ℕ → ℕ → Rule → Type 0
  IsUnfit m b w WrongContents = option_map (λ t. t.0) (numbered m.names (name_of w)) ≡ Some b → ⊥
  IsUnfit m b w NotNewer = (option_map (λ t. t.0) (numbered m.names (name_of w)) ≡ Some b) × (name_of w ≤ name_of (slice_index m.words b))
  IsUnfit m b w _ = ⊥
