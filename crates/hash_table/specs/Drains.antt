-- What a table that is drained leaves.
use Rattle.std.specs.Prelude.{◌≡◌, ℕ, ◌++◌, Bool, IsTrue, List, []}
use Rattle.std.specs.List.Sorted.{IsPermutation}
use Rattle.table_core.specs.declared.event.Event.{Event}
use Rattle.table_core.specs.declared.limits.Limits.{Limits}
use Rattle.table_core.specs.Maps.{map_of}
use Rattle.table_core.specs.Logs.{history}
use Rattle.hash_table.specs.declared.caller.Caller.{Caller}
use Rattle.hash_table.specs.Closes.{HistoryStays, IsFrontOf, pairs_from}

-- some pairs were added, in any order: where the flag is set, these
abbrev pub Adds : {K V : Type 0} → Bool → List (K × V) → List (K × V) → List (K × V) → Type 0
Adds {K} {V} is_honest wanted old new = (pairs : List (K × V)) × IsPermutation (old ++ pairs) new × (IsTrue is_honest → pairs ≡ wanted)

module _ {K V : Type 0} (ek : K → List ℕ) (ev : V → List ℕ) (l : Limits) where
  -- Some pairs were added. With those that were not they are the pairs of the first so many buckets, in any order, of each log of this kind that has the mark's history;
  -- where none of the buckets was lost, all of them were added.
  pub record AreDrained (mark : List (Event K V)) (Sees : List (Event K V) → Type 0) (count : ℕ) (old new : List (K × V)) (lost : ℕ) : Type 0 where
    pub carried : List (K × V)
    pub others : List (K × V)
    pub kept : IsPermutation (old ++ carried) new
    pub are : IsTrue l.honest → (log : List (Event K V)) → Sees log → HistoryStays mark log → IsPermutation (pairs_from ek ev l log 0 count) (carried ++ others)
    pub all : lost ≡ 0 → others ≡ []

module _ {K V J : Type 0} (ek : K → List ℕ) (ev : V → List ℕ) (l : Limits) where
  -- at a front where the callers are all that there are, some of the map's pairs were added, each of them once; where no bucket was lost, all of them were
  pub record Drains (callers : List (Caller K V J)) (old new : List (K × V)) (lost : ℕ) : Type 0 where
    pub log : List (Event K V)
    pub front : IsFrontOf ek ev l callers log
    pub carried : List (K × V)
    pub others : List (K × V)
    pub kept : IsPermutation (old ++ carried) new
    pub whole : IsTrue l.honest → IsPermutation (map_of ek ev (history log)) (carried ++ others)
    pub all : lost ≡ 0 → others ≡ []
