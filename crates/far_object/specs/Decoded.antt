-- The pairs that bytes are read as.
use Rattle.std.specs.Prelude.{zero, suc, ◌≡◌, ℕ, List, [], ◌∷◌, ◌++◌, length, take, drop, Option, Some, None}
use Rattle.std.specs.Int.{w32, from_be_bytes}
use Rattle.far_object.specs.Objects.{object_of, IsMap}

module _ {K V : Type 0} (ek : K → List ℕ) (ev : V → List ℕ) (dk : List ℕ → Option K) (dv : List ℕ → Option V) where
  abbrev pub pairs_with : (List ℕ → List (K × V)) → K → List ℕ → Option V → List (K × V)
  pairs_with rest k bs None = []
  pairs_with rest k bs (Some v) = (k, v) ∷ rest (drop (length (ev v)) bs)

  abbrev pub pairs_after : (List ℕ → List (K × V)) → List ℕ → Option K → List (K × V)
  pairs_after rest bs None = []
  pairs_after rest bs (Some k) = pairs_with rest k (drop (length (ek k)) bs) (dv (drop (length (ek k)) bs))

  -- the first n pairs
  abbrev pub pairs_in : ℕ → List ℕ → List (K × V)
  pairs_in zero bs = []
  pairs_in (suc n) bs = pairs_after (pairs_in n) bs (dk bs)

  -- the pairs of an object's bytes
  abbrev pub decoded_pairs : List ℕ → List (K × V)
  decoded_pairs bytes = pairs_in (from_be_bytes w32 (take 4 bytes)) (drop 4 bytes)

module _ {K V : Type 0} (ek : K → List ℕ) (ev : V → List ℕ) (dk : List ℕ → Option K) (dv : List ℕ → Option V) (AK : K → Type 0) (AV : V → Type 0) where
  -- the bytes are those of the pairs that they are read as
  pub record IsObject (bytes : List ℕ) : Type 0 where
    pub is : bytes ≡ object_of ek ev (decoded_pairs ek ev dk dv bytes)
    pub map : IsMap ek AK AV (decoded_pairs ek ev dk dv bytes)

module _ {K V : Type 0} (ek : K → List ℕ) (ev : V → List ℕ) (AK : K → Type 0) (AV : V → Type 0) where
  -- the bytes are a pair and more
  pub record BeginsWith (bytes : List ℕ) (e : K × V) : Type 0 where
    pub more : List ℕ
    pub is : bytes ≡ ek e.0 ++ (ev e.1 ++ more)
    pub key : AK e.0
    pub value : AV e.1
