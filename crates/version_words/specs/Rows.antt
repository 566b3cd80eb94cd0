-- The rule of a row of words, and what its steps tell.
use Rattle.std.specs.Prelude.{◌≡◌, ℕ, ◌+◌, ◌<◌, ◌≤◌, ◌==◌, ltb, Bool, true, false, if◌then◌else◌, List, [], ◌∷◌, ◌++◌, length, map, MatchBool, Some, slice_index_or}
use mathlib.Core.List.{IsPrefix}
use Rattle.logbook.specs.Pages.{Cell, cell, Step, View, Book, Named as Word}
use Rattle.table_core.specs.declared.event.Event.{Event}
use Rattle.table_core.specs.declared.limits.Limits.{Limits}
use Rattle.table_core.specs.Limits.{most_buckets, last_name, last_pass}
use Rattle.table_core.specs.Logs.{names_of, passes_of, word}
use Rattle.table_core.specs.Lawful.{MayFollow, IsLawful}
use Rattle.version_words.specs.declared.entry.Entry.{Entry}
use Rattle.version_words.specs.declared.entry.Entry.TheVariants.{Opened, Happened}
use Rattle.version_words.specs.declared.entry.Answer.{Answer}
use Rattle.version_words.specs.declared.sizes.Sizes.{Sizes}
use Rattle.version_words.specs.Tallies.{events}

-- the word k of the row of the book
abbrev pub word_at : Book → ℕ → Word
word_at b k = record { tracked = true; key = k; book = b }

-- the first of the words of the row, which are k from here on
abbrev pub AreWords : Book → ℕ → List Word → Type 0
AreWords b n words = (length words ≡ n) × ((k : ℕ) (d : Word) → k < n → slice_index_or words k d ≡ word_at b k)

-- the limits of these sizes
abbrev pub limits_of : Sizes → Bool → Limits
limits_of s honest = record { buckets = s.buckets; names = s.names; passes = s.passes; honest = honest }

abbrev pub AreSizes : Limits → Sizes → Type 0
AreSizes l s = (s.buckets ≡ l.buckets) × (s.names ≡ l.names) × (s.passes ≡ l.passes)

-- how large a row may be
abbrev pub AreWithin : Limits → Type 0
AreWithin l = (0 < l.buckets) × (l.buckets ≤ most_buckets) × (l.names ≤ last_name) × (l.passes ≤ last_pass)

module _ {K V : Type 0} where
  -- the log of a row to which nothing has happened
  abbrev pub fresh : Limits → List (Entry K V)
  fresh l = Opened l ∷ []

module _ {K V : Type 0} (ek : K → List ℕ) (ev : V → List ℕ) (l : Limits) where
  -- what the word k of the row holds: the words of the buckets, and behind them the counter of names and that of passes
  abbrev pub value_of : List (Event K V) → ℕ → ℕ
  value_of log k =
      if ltb k l.buckets then word ek l.buckets log k
      else (if k == l.buckets then names_of log else passes_of log)

  -- the log of a row that was opened with these limits: the events are lawful
  pub record IsLog (log : List (Entry K V)) : Type 0 where
    pub is : log ≡ Opened l ∷ map Happened (events log)
    pub lawful : IsLawful ek ev l (events log)

  -- the words hold what the events say
  pub record IsRow (cells : List Cell) (log : List (Event K V)) : Type 0 where
    pub count : length cells ≡ l.buckets + 2
    pub words : (k : ℕ) → k < l.buckets + 2 → cell cells k ≡ (value_of log k, true)

  -- the event may follow the log, and its one effect on the row is that the word k becomes n
  pub record Writes (log : List (Event K V)) (k n : ℕ) (e : Event K V) : Type 0 where
    pub may : MayFollow ek ev l log e
    pub words : (j : ℕ) → j < l.buckets + 2 → value_of (log ++ e ∷ []) j ≡ (if j == k then n else value_of log j)

  -- wherever the word k is still the old one, the event may be added
  pub record CanAdd (seen : List (Event K V)) (k old n : ℕ) (e : Event K V) : Type 0 where
    pub there : k < l.buckets + 2
    pub writes : (log : List (Event K V)) → IsLawful ek ev l log → IsPrefix seen log → value_of log k ≡ old → Writes log k n e

  -- the event stands last in the log, behind all that was seen, and just before it the word k was the old one
  abbrev pub IsAdded : List (Event K V) → ℕ → ℕ → Event K V → List (Event K V) → Type 0
  IsAdded seen k old e log =
      (before : List (Event K V)) × (log ≡ before ++ e ∷ []) × IsPrefix seen before × (value_of before k ≡ old)

module _ {K V : Type 0} (ek : K → List ℕ) (ev : V → List ℕ) where
  -- what holds of the words and the log between any two steps
  pub record IsKept (cells : List Cell) (log : List (Entry K V)) : Type 0 where
    pub limits : Limits
    pub log_is : IsLog ek ev limits log
    pub row : IsRow ek ev limits cells (events log)

  -- what a look at a word tells: the log so far, and what the word then held
  pub record Looks (s : Step (Entry K V)) (v : View (Entry K V) (Answer (Entry K V))) (found : ℕ) (w : View (Entry K V) (Answer (Entry K V))) : Type 0 where
    pub answer : Answer (Entry K V)
    pub ran : w.1.1 ≡ Some answer
    pub did : answer.done ≡ false
    pub log_is : answer.log ≡ w.0
    pub told : (l : Limits) → IsLog ek ev l v.0 → IsLog ek ev l w.0 × (found ≡ value_of ek ev l (events w.0) s.key)

  -- the event of an entry that is asked for was added, in the events of the log
  abbrev pub AddsEntry : Limits → List (Event K V) → ℕ → ℕ → Entry K V → List (Event K V) → Type 0
  AddsEntry l seen k old (Opened m) log = ⊥
  AddsEntry l seen k old (Happened e) log = IsAdded ek ev l seen k old e log

  -- what an exchange tells: the event was added, or the word held something else
  pub record Adds (s : Step (Entry K V)) (v : View (Entry K V) (Answer (Entry K V))) (found : ℕ) (w : View (Entry K V) (Answer (Entry K V))) : Type 0 where
    pub answer : Answer (Entry K V)
    pub ran : w.1.1 ≡ Some answer
    pub did : answer.done ≡ (found == s.old)
    pub log_is : answer.log ≡ w.0
    pub told : (l : Limits) → IsLog ek ev l v.0
        → IsLog ek ev l w.0
        × MatchBool (found == s.old) (AddsEntry l (events v.0) s.key s.old s.ask (events w.0)) (found ≡ value_of ek ev l (events w.0) s.key)
