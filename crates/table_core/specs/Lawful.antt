-- Which logs are lawful: five rules, each of one event behind those before it.
use Rattle.std.specs.Prelude.{◌≡◌, ℕ, ◌+◌, ◌<◌, ◌≤◌, true, IsTrue, List, [], ◌∷◌, ◌++◌, Some, None, option_map, ⊤, MatchOption, All}
use Rattle.std.specs.Map.{keys_of}
use Rattle.std.specs.List.Sorted.{IsStrictlySortedBy}
use Rattle.far_object.specs.Buckets.{key_cmp, bucket}
use Rattle.table_core.specs.BucketWords.{name_of, place_of, empty_place}
use Rattle.table_core.specs.Limits.{last_name, last_pass}
use Rattle.table_core.specs.Maps.{key_of, after}
use Rattle.table_core.specs.Logs.{passes_of, names_of, naming, contents, installed, word}
use Rattle.table_core.specs.declared.event.Event.{Event}
use Rattle.table_core.specs.declared.event.Event.TheVariants.{Enter, Named, Done, Moved}
use Rattle.table_core.specs.declared.limits.Limits.{Limits}

module _ {K V : Type 0} (ek : K → List ℕ) where
  -- the keys are in the bucket, in rising order
  pub record AreContents (buckets b : ℕ) (es : List (K × V)) : Type 0 where
    pub here : All (λ k. bucket ek buckets k ≡ b) (keys_of es)
    pub rising : IsStrictlySortedBy (key_cmp ek) (keys_of es)

module _ {K V : Type 0} where
  -- the name was drawn for the bucket
  abbrev pub IsDrawn : List (Event K V) → ℕ → ℕ → Type 0
  IsDrawn log n b = option_map (λ t. t.0) (naming log n) ≡ Some b

  -- the word's contents are these, and its place is EMPTY only where they are no pair
  pub record Holds (log : List (Event K V)) (w : ℕ) (es : List (K × V)) : Type 0 where
    pub same : contents log (name_of w) ≡ es
    pub none : place_of w ≡ empty_place → es ≡ []

module _ {K V : Type 0} (ek : K → List ℕ) (ev : V → List ℕ) (l : Limits) where
  -- the contents of the bucket's word
  abbrev pub standing : List (Event K V) → ℕ → List (K × V)
  standing log b = contents log (name_of (word ek l.buckets log b))

  -- Enter has the next pass, counted from 1; the pass of a Done has entered
  abbrev pub PassRule : List (Event K V) → Event K V → Type 0
  PassRule log (Enter p) = (p ≡ passes_of log + 1) × (p ≤ l.passes)
  PassRule log (Named n b es) = ⊤
  PassRule log (Done p op w) = (0 < p) × (p ≤ passes_of log)
  PassRule log (Moved b w) = ⊤

  -- Named has the next name, counted from 1
  abbrev pub NumberRule : List (Event K V) → Event K V → Type 0
  NumberRule log (Enter p) = ⊤
  NumberRule log (Named n b es) = (n ≡ names_of log + 1) × (n ≤ l.names)
  NumberRule log (Done p op w) = ⊤
  NumberRule log (Moved b w) = ⊤

  -- an installed word has a name that was drawn for its bucket
  abbrev pub DrawnRule : List (Event K V) → Event K V → Type 0
  DrawnRule log e = MatchOption (installed ek l.buckets e) ⊤ (λ t. IsDrawn log (name_of t.1) t.0)

  -- and that is newer than the one which stands there
  abbrev pub NewerRule : List (Event K V) → Event K V → Type 0
  NewerRule log e = MatchOption (installed ek l.buckets e) ⊤ (λ t. name_of (word ek l.buckets log t.0) < name_of t.1)

  -- what was named belongs into its bucket; what a call installs is what its operation makes of the contents that stand there,
  -- what it leaves is not changed by the operation, and a move changes nothing
  abbrev pub ContentsRule : List (Event K V) → Event K V → Type 0
  ContentsRule log (Enter p) = ⊤
  ContentsRule log (Named n b es) = (b < l.buckets) × (IsTrue l.honest → AreContents ek l.buckets b es)
  ContentsRule log (Done p op None) =
      IsTrue l.honest → after ek ev (standing log (bucket ek l.buckets (key_of op))) op ≡ standing log (bucket ek l.buckets (key_of op))
  ContentsRule log (Done p op (Some w)) = IsTrue l.honest → Holds log w (after ek ev (standing log (bucket ek l.buckets (key_of op))) op)
  ContentsRule log (Moved b w) = (b < l.buckets) × (IsTrue l.honest → Holds log w (standing log b))

  -- the event may come next
  pub record MayFollow (log : List (Event K V)) (e : Event K V) : Type 0 where
    pub pass : PassRule log e
    pub number : NumberRule log e
    pub drawn : DrawnRule log e
    pub newer : NewerRule log e
    pub contents_kept : ContentsRule log e

  -- each of the later events may follow those before it
  abbrev pub LawfulFrom : List (Event K V) → List (Event K V) → Type 0
  LawfulFrom past [] = ⊤
  LawfulFrom past (e ∷ later) = MayFollow past e × LawfulFrom (past ++ e ∷ []) later

  abbrev pub IsLawful : List (Event K V) → Type 0
  IsLawful log = LawfulFrom [] log

-- the limits of a log that no row of words bounds more narrowly
abbrev pub widest : ℕ → Limits
widest buckets = record { buckets = buckets; names = last_name; passes = last_pass; honest = true }
