-- Where the pair of a key is among the bytes.
use Rattle.std.specs.Prelude.{ℕ, ◌+◌, List, [], ◌∷◌, length}
use Rattle.std.specs.Ordering.{match_ordering}
use Rattle.far_object.specs.Buckets.{key_cmp}
use Rattle.far_object.specs.declared.object.locate.Spot.{Spot}
use Rattle.far_object.specs.declared.object.locate.Spot.TheVariants.{Gap, Here}

module _ {K V : Type 0} (ek : K → List ℕ) (ev : V → List ℕ) where
  -- where the pair of the key k is written, or where it would go, when the pairs begin at this place
  abbrev pub spot_from : K → ℕ → List (K × V) → Spot
  spot_from k at [] = Gap at
  spot_from k at (e ∷ es) =
      match_ordering (key_cmp ek k e.0)
      (Gap at)
      (Here at (at + length (ek e.0)) (at + length (ek e.0) + length (ev e.1)))
      (spot_from k (at + length (ek e.0) + length (ev e.1)) es)
