-- Pairs as they are written, and in the order of their keys.
use Rattle.std.specs.Prelude.{◌≡◌, ℕ, List, [], ◌∷◌, ◌++◌, length, map, Option}
use Rattle.std.specs.List.{AllByRecursion}
use Rattle.std.specs.List.Sorted.{IsPermutation, IsSortedBy}
use Rattle.std.specs.Ordering.{is_lt}
use Rattle.far_object.specs.Buckets.{key_cmp}
use Rattle.far_object.specs.Objects.{body_of}
use Rattle.far_object.specs.Decoded.{pairs_in}

module _ {K V : Type 0} (ek : K → List ℕ) (ev : V → List ℕ) (dk : List ℕ → Option K) (dv : List ℕ → Option V) (AK : K → Type 0) (AV : V → Type 0) where
  -- the bytes are those of as many pairs as are counted, and these are read as they were written
  pub record IsBundle (count : ℕ) (bytes : List ℕ) : Type 0 where
    pub is : bytes ≡ body_of ek ev (pairs_in ek ev dk dv count bytes)
    pub counted : length (pairs_in ek ev dk dv count bytes) ≡ count
    pub admitted : AllByRecursion (λ e. AK e.0 × AV e.1) (pairs_in ek ev dk dv count bytes)

-- the pairs of all bundles, one bundle behind the other
abbrev pub all_of : {X : Type 0} → List (List X) → List X
all_of [] = []
all_of (pairs ∷ more) = pairs ++ all_of more

module _ {K V : Type 0} (ek : K → List ℕ) (ev : V → List ℕ) where
  -- a pair as it is written
  abbrev pub written : K × V → List ℕ × List ℕ
  written e = (ek e.0, ev e.1)

  -- no pair's key comes before that of the pair in front of it, by their bytes
  abbrev pub Rises : List (K × V) → Type 0
  Rises pairs = IsSortedBy (λ a b. is_lt (key_cmp ek a.0 b.0)) pairs

  -- these are the pairs as they are written, in rising order of their keys' bytes
  pub record AreInOrder (pairs : List (K × V)) (lent : List (List ℕ × List ℕ)) : Type 0 where
    pub all : List (K × V)
    pub same : IsPermutation pairs all
    pub rising : Rises all
    pub are : lent ≡ map written all
