-- The workers of a run, and what is so at its end.
use Rattle.std.specs.Prelude.{◌≡◌, ℕ, ◌+◌, IsTrue, List, [], ◌∷◌, length, map, Result, Ok, Err, ⊤}
use Rattle.std.specs.Global.{Vec}
use Rattle.std.specs.List.{AllByRecursion}
use Rattle.std.specs.List.Sorted.{IsPermutation}
use mathlib.Core.List.{IsPrefix}
use Rattle.far_object.specs.Encodings.{enc_text}
use Rattle.far_pairs.specs.Bundles.{all_of, Rises}
use Rattle.table_core.specs.declared.limits.Limits.{Limits}
use Rattle.table_core.specs.Maps.{map_of}
use Rattle.table_core.specs.Logs.{history, passes_of}
use Rattle.table_core.specs.Lawful.{IsLawful}
use Rattle.version_words.specs.Views.{calls, calls_of, IsWhole, AreApart, AreNone}
use Rattle.far_map.specs.declared.run_end.End.{End}
use Rattle.far_map.specs.declared.run_end.End.TheVariants as asked
use Rattle.far_map.specs.declared.run_end.Given.{Given}
use Rattle.far_map.specs.declared.run_end.Given.TheVariants as given
use Rattle.far_map.specs.declared.fault.MapFault.{MapFault}
use Rattle.hash_table.specs.Closes.{Hands, pairs_from}
use Rattle.far_map.specs.Faults.{IsLater, IsHandingFault}
use Rattle.far_map.specs.Counts.{no_calls}
use Rattle.far_map.specs.Views.{View, Log, Pairs, SessionView}

-- a session as a worker gets it: it has made no call and counted none, and this is its map's limit
pub record IsNew {V : Type 0} (limit : ℕ) (begun : SessionView V) : Type 0 where
  pub no_call : calls begun.pass ≡ []
  pub uncounted : begun.stats ≡ no_calls
  pub limit_is : begun.limit ≡ limit

-- a worker that has ended: its number, its session as it began and as it ended, and what it gave back
pub record Served (V Out : Type 0) : Type 0 where
  pub worker : ℕ
  pub begun : SessionView V
  pub ended : SessionView V
  pub out : Out

module _ {V Out : Type 0} (Done : ℕ → SessionView V → SessionView V → Out → Type 0) (limit : ℕ) where
  -- each did its work by a new session; they are counted from here on
  abbrev pub AreServed : ℕ → List (Served V Out) → Type 0
  AreServed n [] = ⊤
  AreServed n (s ∷ ss) = (s.worker ≡ n) × IsNew limit s.begun × Done s.worker s.begun s.ended s.out × AreServed (n + 1) ss

  -- so many workers did their work, and these are their passes at the end, and what they gave back
  pub record Worked (count : ℕ) (passes : List (View V)) (outs : List Out) : Type 0 where
    pub all : List (Served V Out)
    pub count_is : length all ≡ count
    pub passes_are : map (λ s. s.ended.pass) all ≡ passes
    pub outs_are : map (λ s. s.out) all ≡ outs
    pub served : AreServed 0 all

-- a lawful log has the calls of these passes, each as it made them, and no others, and the pairs are its map
pub record IsEnd {V : Type 0} (ev : V → List ℕ) (l : Limits) (passes : List (View V)) (pairs : Pairs V) : Type 0 where
  pub log : Log V
  pub lawful : IsLawful enc_text ev l log
  pub all : passes_of log ≡ length passes + 1
  pub apart : AreApart passes
  pub whole : AllByRecursion (λ pass. IsWhole log pass) passes
  pub no_other : (pass : View V) → AreNone pass passes → calls_of pass.number log ≡ []
  pub pairs_are : IsTrue l.honest → pairs ≡ map_of enc_text ev (history log)

-- a run that these passes made ended with a map, and these are its pairs, one bucket behind the other in the order of the buckets' numbers
pub record IsEndInOrder {V : Type 0} (ev : V → List ℕ) (l : Limits) (passes : List (View V)) (pairs : Pairs V) : Type 0 where
  pub all : Pairs V
  pub ended : IsEnd ev l passes all
  pub in_order : IsTrue l.honest → pairs ≡ pairs_from enc_text ev l ended.log 0 l.buckets

-- the log begins with what each of these passes has seen
abbrev pub AreSeen : {V : Type 0} → Log V → List (View V) → Type 0
AreSeen log passes = AllByRecursion (λ pass. IsPrefix pass.front log) passes

-- a lawful log begins with all that these passes have seen: so their fronts are beginnings of one history
pub record IsLeft {V : Type 0} (ev : V → List ℕ) (l : Limits) (passes : List (View V)) : Type 0 where
  pub log : Log V
  pub lawful : IsLawful enc_text ev l log
  pub seen : AreSeen log passes

module _ {V Out : Type 0} (ev : V → List ℕ) (Done : ℕ → Limits → SessionView V → SessionView V → Out → Type 0) (l : Limits) (limit count : ℕ) (outs : List Out) where
  -- so many workers did their work
  pub record IsWorked : Type 0 where
    pub passes : List (View V)
    pub worked : Worked (λ worker begun ended out. Done worker l begun ended out) limit count passes outs

  -- so many workers did their work, and the pairs are the map of one history with their calls and no others
  pub record IsRun (pairs : Pairs V) : Type 0 where
    pub passes : List (View V)
    pub worked : Worked (λ worker begun ended out. Done worker l begun ended out) limit count passes outs
    pub ended : IsEnd ev l passes pairs

  -- the same with these pairs in key order
  pub record IsRunBundled (pairs : Pairs V) : Type 0 where
    pub passes : List (View V)
    pub worked : Worked (λ worker begun ended out. Done worker l begun ended out) limit count passes outs
    pub ended : (all : Pairs V) → IsPermutation pairs all → Rises enc_text ev all → IsEnd ev l passes all

  -- so many workers did their work, in one history
  pub record IsRunApart : Type 0 where
    pub passes : List (View V)
    pub worked : Worked (λ worker begun ended out. Done worker l begun ended out) limit count passes outs
    pub left : IsLeft ev l passes

  -- what a run answers whose pairs come as they are written; the workers did their work also where the end failed
  abbrev pub EndsBundled : Result (Vec (Pairs V)) MapFault → Type 0
  EndsBundled (Ok bundles) = IsRunBundled (all_of bundles.items)
  EndsBundled (Err fault) = IsWorked × IsLater l.honest fault

  module _ {S : Type 0} (Takes : S → Pairs V → S → Type 0) (Stops : S → S → Type 0) (old new : S) where
    -- so many workers did their work, and a taker was handed the pairs of the map of one history with their calls and no others
    pub record IsRunThrough : Type 0 where
      pub passes : List (View V)
      pub worked : Worked (λ worker begun ended out. Done worker l begun ended out) limit count passes outs
      pub handed : Hands Takes (IsEndInOrder ev l passes) old new

    -- what a run answers that hands its pairs over
    abbrev pub EndsThrough : Result (Unit {0}) MapFault → Type 0
    EndsThrough (Ok _) = IsRunThrough
    EndsThrough (Err fault) = IsWorked × IsHandingFault Takes Stops l.honest old new fault

    -- what a run gives beside what its workers gave back, by the end that was asked for
    abbrev pub EndsSo : End → Result (Given V) MapFault → Type 0
    EndsSo asked.Pairs (Ok (given.Pairs pairs)) = IsRun pairs.items
    EndsSo asked.Bundles (Ok (given.Bundles bundles)) = IsRunBundled (all_of bundles.items)
    EndsSo asked.Buckets (Ok given.Nothing) = IsRunThrough
    EndsSo asked.Buckets (Err fault) = IsWorked × IsHandingFault Takes Stops l.honest old new fault
    EndsSo asked.Nothing (Ok given.Nothing) = IsRunApart
    EndsSo asked.Nothing (Err fault) = ⊥
    EndsSo end (Err fault) = IsWorked × IsLater l.honest fault
    EndsSo end (Ok other) = ⊥
