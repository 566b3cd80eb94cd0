-- What follows from the laws of the encodings.
use Rattle.std.specs.Prelude.{◌≡◌, ◌↔◌, ℕ, ◌+◌, ◌<◌, ◌≤◌, ◌^◌, List, [], ◌++◌, length, Option, Some}
use Rattle.std.specs.BTreeMap.{insert_entry}
use Rattle.std.specs.List.Sorted.{IsStrictlySortedBy}
use Rattle.std.specs.Map.{keys_of}
use Rattle.far_object.specs.declared.fault.ObjectFault.TheVariants.{Misplaced}
use Rattle.far_object.specs.declared.format.Format.{Format}
use Rattle.far_object.specs.declared.format.Format.TheVariants.{Two}
use Rattle.far_object.specs.Buckets.{key_cmp}
use Rattle.far_object.specs.Encodings.{AreBytes}
use Rattle.far_object.specs.Faults.{placed_fault}
use Rattle.far_object.specs.Formats.{spelling}
use Rattle.far_object.specs.Objects.{object_of, IsMap, most_pairs}

module _ {X : Type 0} (enc : X → List ℕ) (dec : List ℕ → Option X) (admits : X → Type 0) where
  -- bytes are read as a value exactly where they begin with its writing
  abbrev pub ReadsWhatBegins : Type 0
  ReadsWhatBegins = (x : X) (bytes : List ℕ) → AreBytes bytes → (dec bytes ≡ Some x) ↔ (admits x × ((rest : List ℕ) × (bytes ≡ enc x ++ rest)))

module _ {X : Type 0} (enc : X → List ℕ) (admits : X → Type 0) where
  -- a writing that begins with another is that other
  abbrev pub BeginNoOther : Type 0
  BeginNoOther = (x y : X) (rest : List ℕ) → admits x → admits y → enc y ≡ enc x ++ rest → rest ≡ []

  -- values that are written alike are the same
  abbrev pub AreDistinct : Type 0
  AreDistinct = (x y : X) → admits x → admits y → enc x ≡ enc y → x ≡ y

module _ {K V : Type 0} (ek : K → List ℕ) (ev : V → List ℕ) (AK : K → Type 0) (AV : V → Type 0) where
  -- maps that are written alike have the same pairs
  abbrev pub MapsAreDistinct : Type 0
  MapsAreDistinct = (es fs : List (K × V)) → IsMap ek AK AV es → IsMap ek AK AV fs → object_of ek ev es ≡ object_of ek ev fs → es ≡ fs

  -- spellings that are alike are of one format and one map
  abbrev pub SpellingsAreDistinct : Type 0
  SpellingsAreDistinct =
      (f g : Format) (bucket name bucket' name' : ℕ) (es fs : List (K × V)) → IsMap ek AK AV es → IsMap ek AK AV fs
      → spelling ek ev f bucket name es ≡ spelling ek ev g bucket' name' fs → (f ≡ g) × (es ≡ fs)

module _ {K V : Type 0} (ek : K → List ℕ) (ev : V → List ℕ) where
  -- an object has three bytes more than pairs, at least: the count takes four, and one key alone may take none
  abbrev pub AreLong : Type 0
  AreLong = (es : List (K × V)) → IsStrictlySortedBy (key_cmp ek) (keys_of es) → length es + 3 ≤ length (object_of ek ev es)

  -- pairs that are as many as an object may count are written as more bytes than that, once a pair is put
  abbrev pub GrowTooLong : Type 0
  GrowTooLong =
      (es : List (K × V)) (k : K) (v : V) → IsStrictlySortedBy (key_cmp ek) (keys_of es) → most_pairs ≤ length es
      → most_pairs < length (object_of ek ev (insert_entry (key_cmp ek) es k v))

module _ {K V : Type 0} (ek : K → List ℕ) (ev : V → List ℕ) (dk : List ℕ → Option K) (dv : List ℕ → Option V) where
  -- a spelling in the second format is misplaced at any other bucket or name
  abbrev pub IsMisplacedElsewhere : Type 0
  IsMisplacedElsewhere =
      (bucket name bucket' name' : ℕ) (es : List (K × V)) → bucket < 2 ^ 32 → bucket' < 2 ^ 32 → name < 2 ^ 64 → name' < 2 ^ 64
      → ((bucket ≡ bucket') × (name ≡ name') → ⊥)
      → placed_fault ek ev dk dv bucket' name' (spelling ek ev Two bucket name es) ≡ Some Misplaced
