-- What the loader of a generation puts: pairs that the one before it left.
use Rattle.std.specs.Prelude.{◌≡◌, ℕ, ◌+◌, ◌-◌, ◌^◌, min, Bool, IsTrue, List, ◌++◌, map}
use Rattle.std.specs.List.Sorted.{IsPermutation}
use Rattle.table_core.specs.declared.operation.Operation.TheVariants as op
use Rattle.version_words.specs.Views.{calls}
use Rattle.far_map.specs.declared.renewable_work.LoadReport.{LoadReport}
use Rattle.far_map.specs.Views.{View, Pairs, Call}

-- the sum, as far as 64 bits can tell
abbrev pub summed : ℕ → ℕ → ℕ
summed a b = min (a + b) (2 ^ 64 - 1)

-- how much was lost on the way into a generation
abbrev pub lost_of : LoadReport → ℕ
lost_of load_report = summed load_report.lost_pairs load_report.lost_buckets

-- some of these, in any order; the others are left out
pub record IsPart {A : Type 0} (some all : List A) : Type 0 where
  pub others : List A
  pub split : IsPermutation all (some ++ others)

-- what came of the ones before: a part of them, and all of them where nothing was lost
pub record Comes {A : Type 0} (before after : List A) (lost : ℕ) : Type 0 where
  pub part : IsPart after before
  pub all : lost ≡ 0 → IsPermutation before after

module _ {V : Type 0} where
  -- a put of each pair
  abbrev pub puts : Pairs V → List (Call V)
  puts pairs = map (λ e. op.Put e.0 e.1) pairs

  -- the pass put some of these pairs, and made no other call; of those that it did not put so many were counted
  pub record PutsEach (pairs : Pairs V) (old new : View V) (refused : ℕ) : Type 0 where
    pub put : Pairs V
    pub others : Pairs V
    pub split : IsPermutation pairs (put ++ others)
    pub all : refused ≡ 0 → IsPermutation pairs put
    pub number : new.number ≡ old.number
    pub made : calls new ≡ calls old ++ puts put

  -- the pass put some of the pairs that waited, and made no other call; others are lost, and some wait still
  pub record IsLoading (is_honest : Bool) (waited waiting : Pairs V) (old new : View V) (lost : ℕ) : Type 0 where
    pub put : Pairs V
    pub others : Pairs V
    pub split : IsTrue is_honest → IsPermutation waited ((put ++ others) ++ waiting)
    pub all : IsTrue is_honest → lost ≡ 0 → IsPermutation waited (put ++ waiting)
    pub made : calls new ≡ calls old ++ puts put

  -- the pass put what came of those that waited, and made no other call
  pub record Loads (is_honest : Bool) (waited : Pairs V) (pass : View V) (lost : ℕ) : Type 0 where
    pub loaded : Pairs V
    pub comes : IsTrue is_honest → Comes waited loaded lost
    pub made : calls pass ≡ puts loaded
