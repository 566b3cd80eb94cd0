-- The end of a map.
use Rattle.std.specs.Prelude.{◌≡◌, ℕ, List, [], ◌∷◌, ◌++◌}
use Rattle.std.specs.List.Sorted.{IsPermutation}
use Rattle.far_object.specs.Encodings.{enc_text}
use Rattle.far_pairs.specs.Bundles.{Rises}
use Rattle.table_core.specs.declared.limits.Limits.{Limits}
use Rattle.version_words.specs.Views.{calls}
use Rattle.hash_table.specs.declared.caller.Caller.{Caller}
use Rattle.hash_table.specs.Closes.{IsClosed, ClosesInOrder}
use Rattle.far_map.specs.Views.{Pairs}

-- these callers, and one of the map's own that made no call, are all that there were
pub record IsClosedBy {V J : Type 0} (ev : V → List ℕ) (l : Limits) (callers : List (Caller (List ℕ) V J)) (pairs : Pairs V) : Type 0 where
  pub own : Caller (List ℕ) V J
  pub no_calls : calls own.pass ≡ []
  pub closed : IsClosed enc_text ev l (callers ++ own ∷ []) pairs

-- the same with these pairs in their order
abbrev pub IsBundledBy : {V J : Type 0} → (V → List ℕ) → Limits → List (Caller (List ℕ) V J) → Pairs V → Type 0
IsBundledBy {V} ev l callers pairs = (all : Pairs V) → IsPermutation pairs all → Rises enc_text ev all → IsClosedBy ev l callers all

-- the same with the pairs of each bucket, one bucket behind the other
pub record IsHandedBy {V J : Type 0} (ev : V → List ℕ) (l : Limits) (callers : List (Caller (List ℕ) V J)) (pairs : Pairs V) : Type 0 where
  pub own : Caller (List ℕ) V J
  pub no_calls : calls own.pass ≡ []
  pub closed : ClosesInOrder enc_text ev l (callers ++ own ∷ []) pairs
