-- What the end of a table tells.
use Rattle.std.specs.Prelude.{◌≡◌, ℕ, ◌+◌, ◌<◌, IsTrue, List, [], length, map, slice_index_or, ⊤}
use Rattle.std.specs.List.Sorted.{IsPermutation, IsSortedBy}
use Rattle.std.specs.Ordering.{is_lt}
use mathlib.Core.List.{IsPrefix}
use Rattle.far_object.specs.Buckets.{key_cmp}
use Rattle.table_core.specs.declared.event.Event.{Event}
use Rattle.table_core.specs.declared.limits.Limits.{Limits}
use Rattle.table_core.specs.Maps.{at_bucket, joined, map_of}
use Rattle.table_core.specs.Logs.{history, passes_of}
use Rattle.table_core.specs.Lawful.{IsLawful}
use Rattle.version_words.specs.Views.{PassView, Goes, IsWhole, AreNone, AreApart, calls_of}
use Rattle.hash_table.specs.declared.caller.Caller.{Caller}
use Rattle.hash_table.specs.declared.close.CloseFault.{CloseFault}
use Rattle.hash_table.specs.declared.close.CloseFault.TheVariants.{PassMissing, Memory, Device, Damaged, Missed}
use Rattle.hash_table.specs.declared.close_through.HandFault.{HandFault}
use Rattle.hash_table.specs.declared.close_through.HandFault.TheVariants.{Close, Stopped}

-- a taker has taken some pairs, one bucket behind the other, and this is so of them
abbrev pub Hands : {K V S : Type 0} → (S → List (K × V) → S → Type 0) → (List (K × V) → Type 0) → S → S → Type 0
Hands {K} {V} Takes P old new = (pairs : List (K × V)) × Takes old pairs new × P pairs

-- no call was added between the two
abbrev pub HistoryStays : {K V : Type 0} → List (Event K V) → List (Event K V) → Type 0
HistoryStays {K} {V} first last = (between : List (Event K V)) → IsPrefix first between → IsPrefix between last → history between ≡ history first

module _ {K V J : Type 0} where
  abbrev pub passes : List (Caller K V J) → List (PassView K V)
  passes callers = map (λ caller. caller.pass) callers

  -- the callers come back, with no call more
  pub record AreBack (old new : List (Caller K V J)) : Type 0 where
    pub count : length new ≡ length old
    pub goes : (k : ℕ) (d : Caller K V J) → k < length old → Goes (slice_index_or old k d).pass (slice_index_or new k d).pass
    pub limbos : (k : ℕ) (d : Caller K V J) → k < length old → (slice_index_or new k d).limbo ≡ (slice_index_or old k d).limbo

  -- each of the callers has seen what the mark has
  abbrev pub AreTold : List (Event K V) → List (Caller K V J) → Type 0
  AreTold mark callers = (k : ℕ) (d : Caller K V J) → k < length callers → IsPrefix mark (slice_index_or callers k d).pass.front

  -- the log begins with what each of the callers has seen
  pub record AllSeen (callers : List (Caller K V J)) (log : List (Event K V)) : Type 0 where
    pub each : (k : ℕ) (d : Caller K V J) → k < length callers → IsPrefix (slice_index_or callers k d).pass.front log

module _ {K V : Type 0} (ek : K → List ℕ) (ev : V → List ℕ) (l : Limits) where
  -- the pairs of so many buckets from this one on, one bucket behind the other
  abbrev pub pairs_from : List (Event K V) → ℕ → ℕ → List (K × V)
  pairs_from log from count = joined (λ i. at_bucket ek l.buckets (from + i) (map_of ek ev (history log))) count

module _ {K V J : Type 0} (ek : K → List ℕ) (ev : V → List ℕ) (l : Limits) where
  -- these are the pairs of so many buckets from this one on, in any order, of each log that begins with what the callers have seen, and that has the mark's history
  pub record ArePairs (mark : List (Event K V)) (callers : List (Caller K V J)) (from count : ℕ) (items : List (K × V)) : Type 0 where
    pub are : IsTrue l.honest → (log : List (Event K V)) → AllSeen callers log → HistoryStays mark log → IsPermutation (pairs_from ek ev l log from count) items

  -- these are the pairs of all buckets, one bucket behind the other, of each such log
  pub record AreInOrder (mark : List (Event K V)) (callers : List (Caller K V J)) (items : List (K × V)) : Type 0 where
    pub are : IsTrue l.honest → (log : List (Event K V)) → AllSeen callers log → HistoryStays mark log → items ≡ pairs_from ek ev l log 0 l.buckets

  -- a lawful log begins with the front of every caller, has as many passes, which all differ, their calls and no others, and the pairs are its map
  pub record IsClosed (callers : List (Caller K V J)) (pairs : List (K × V)) : Type 0 where
    pub log : List (Event K V)
    pub lawful : IsLawful ek ev l log
    pub all : passes_of log ≡ length callers
    pub apart : AreApart (passes callers)
    pub whole : (k : ℕ) (d : Caller K V J) → k < length callers → IsWhole log (slice_index_or callers k d).pass
    pub no_other : (pass : PassView K V) → AreNone pass (passes callers) → calls_of pass.number log ≡ []
    pub pairs_are : IsTrue l.honest → pairs ≡ map_of ek ev (history log)

  -- a lawful log has as many passes as there are callers, which all differ, and their calls and no others
  pub record IsFrontOf (callers : List (Caller K V J)) (log : List (Event K V)) : Type 0 where
    pub lawful : IsLawful ek ev l log
    pub all : passes_of log ≡ length callers
    pub apart : AreApart (passes callers)
    pub whole : (k : ℕ) (d : Caller K V J) → k < length callers → IsWhole log (slice_index_or callers k d).pass
    pub no_other : (pass : PassView K V) → AreNone pass (passes callers) → calls_of pass.number log ≡ []

  -- in key order the pairs are those of a closed table
  abbrev pub ClosesSorted : List (Caller K V J) → List (K × V) → Type 0
  ClosesSorted callers pairs = (all : List (K × V)) → IsPermutation pairs all → IsSortedBy (λ a b. is_lt (key_cmp ek a.0 b.0)) all → IsClosed callers all

  -- the same of pairs that come one bucket behind the other, in the order of the buckets' numbers
  pub record ClosesInOrder (callers : List (Caller K V J)) (pairs : List (K × V)) : Type 0 where
    pub log : List (Event K V)
    pub front : IsFrontOf callers log
    pub in_order : IsTrue l.honest → pairs ≡ pairs_from ek ev l log 0 l.buckets
    pub closes : ClosesSorted callers pairs

  -- why a table is not closed: at the mark's front more passes were drawn than callers are handed in; what was read is damaged over no honest device; of the others nothing is said
  abbrev pub IsCloseFault : ℕ → CloseFault K V J → Type 0
  IsCloseFault count (PassMissing mark) = IsLawful ek ev l mark × (count < passes_of mark)
  IsCloseFault count Memory = ⊤
  IsCloseFault count Device = ⊤
  IsCloseFault count Damaged = IsTrue l.honest → ⊥
  IsCloseFault count Missed = ⊤

  -- why not all pairs were handed over: the table was not closed, or the taker stopped. It took what was handed over before
  abbrev pub IsHandFault : {S : Type 0} → (S → List (K × V) → S → Type 0) → (S → S → Type 0) → S → S → ℕ → HandFault K V J → Type 0
  IsHandFault Takes Stops old new count (Close fault) = IsCloseFault count fault × Hands Takes (λ _. ⊤) old new
  IsHandFault {S} Takes Stops old new count Stopped = (mid : S) × Hands Takes (λ _. ⊤) old mid × Stops mid new
