-- Logs of events, and what they say.
use Rattle.std.specs.Prelude.{ℕ, ◌+◌, ◌==◌, if◌then◌else◌, List, [], ◌∷◌, Option, Some, None, option_map}
use Rattle.std.specs.List.{fold}
use Rattle.far_object.specs.Buckets.{bucket}
use Rattle.table_core.specs.Maps.{key_of}
use Rattle.table_core.specs.declared.event.Event.{Event}
use Rattle.table_core.specs.declared.event.Event.TheVariants.{Enter, Named, Done, Moved}
use Rattle.table_core.specs.declared.operation.Operation.{Operation}

module _ {K V : Type 0} where
  -- the calls that were done, in order: each a pass and its operation
  abbrev pub history : List (Event K V) → List (ℕ × Operation K V)
  history [] = []
  history (Done p op w ∷ log) = (p, op) ∷ history log
  history (_ ∷ log) = history log

  -- how many passes were drawn
  abbrev pub passes_of : List (Event K V) → ℕ
  passes_of [] = 0
  passes_of (Enter p ∷ log) = passes_of log + 1
  passes_of (_ ∷ log) = passes_of log

  -- how many names were drawn
  abbrev pub names_of : List (Event K V) → ℕ
  names_of [] = 0
  names_of (Named n b es ∷ log) = names_of log + 1
  names_of (_ ∷ log) = names_of log

  -- the bucket and the contents that a name was drawn for
  abbrev pub naming : List (Event K V) → ℕ → Option (ℕ × List (K × V))
  naming [] n = None
  naming (Named m b es ∷ log) n = if m == n then Some (b, es) else naming log n
  naming (_ ∷ log) n = naming log n

  abbrev pub pairs_of : Option (ℕ × List (K × V)) → List (K × V)
  pairs_of None = []
  pairs_of (Some t) = t.1

  -- the contents of a name: no pair for the name 0
  abbrev pub contents : List (Event K V) → ℕ → List (K × V)
  contents log n = pairs_of (naming log n)

-- the word in b, which was w, after an installation
abbrev pub replaced : ℕ → ℕ → Option (ℕ × ℕ) → ℕ
replaced b w None = w
replaced b w (Some t) = if t.0 == b then t.1 else w

module _ {K V : Type 0} (ek : K → List ℕ) (buckets : ℕ) where
  -- the bucket and the word that an event installs there
  abbrev pub installed : Event K V → Option (ℕ × ℕ)
  installed (Enter p) = None
  installed (Named n b es) = None
  installed (Done p op w) = option_map (λ word. (bucket ek buckets (key_of op), word)) w
  installed (Moved b w) = Some (b, w)

  -- the last word that was installed in b, and 0 before the first
  abbrev pub word : List (Event K V) → ℕ → ℕ
  word log b = fold (λ w e. replaced b w (installed e)) 0 log
