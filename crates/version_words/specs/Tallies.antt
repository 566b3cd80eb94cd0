-- The two boards of a row: the calls of each pass, and the installs of each name. A key k is that of the pass or the name k + 1.
use Rattle.std.specs.Prelude.{ℕ, ◌+◌, ◌-◌, ◌<◌, ◌≡◌, ◌==◌, Bool, List, [], ◌∷◌, ◌++◌, Some, None, MatchBool, ⊤, slice_index_or}
use base.Fml.{Fml, fsep}
use Rattle.logbook.specs.Kept.{fact}
use Rattle.table_core.specs.declared.event.Event.{Event}
use Rattle.table_core.specs.declared.event.Event.TheVariants.{Enter, Named, Done, Moved}
use Rattle.table_core.specs.BucketWords.{name_of}
use Rattle.table_core.specs.Logs.{passes_of, names_of}
use Rattle.version_words.specs.declared.entry.Entry.{Entry}
use Rattle.version_words.specs.declared.entry.Entry.TheVariants.{Opened, Happened}
use Rattle.version_words.specs.declared.entry.Answer.{Answer}
use Rattle.version_words.specs.Boards.{total, board, Slot, slot, slot_owns, Effect, ignores, raises, opens_at, after, Told, hit, board_at}

module _ {K V : Type 0} where
  -- an event is one call of its pass
  abbrev pub calls_in : Event K V → ℕ → ℕ
  calls_in (Enter p) k = 0
  calls_in (Named n b es) k = 0
  calls_in (Done p op w) k = hit (p == k + 1)
  calls_in (Moved b w) k = 0

  abbrev pub passes_in : Event K V → ℕ
  passes_in (Enter p) = 1
  passes_in (Named n b es) = 0
  passes_in (Done p op w) = 0
  passes_in (Moved b w) = 0

  -- an event is one install of its word's name
  abbrev pub installs_in : Event K V → ℕ → ℕ
  installs_in (Enter p) k = 0
  installs_in (Named n b es) k = 0
  installs_in (Done p op None) k = 0
  installs_in (Done p op (Some w)) k = hit (name_of w == k + 1)
  installs_in (Moved b w) k = hit (name_of w == k + 1)

  abbrev pub names_in : Event K V → ℕ
  names_in (Enter p) = 0
  names_in (Named n b es) = 1
  names_in (Done p op w) = 0
  names_in (Moved b w) = 0

  -- what an event does to the slots of the pass and of the name that ask for it
  abbrev pub on_pass : Event K V → Effect
  on_pass (Enter p) = opens_at (p - 1)
  on_pass (Named n b es) = ignores
  on_pass (Done p op w) = raises
  on_pass (Moved b w) = ignores

  abbrev pub on_name : Event K V → Effect
  on_name (Enter p) = ignores
  on_name (Named n b es) = opens_at (n - 1)
  on_name (Done p op None) = ignores
  on_name (Done p op (Some w)) = raises
  on_name (Moved b w) = raises

  -- who asks for a call holds the tally of its pass, and who asks for an install holds that of its name
  abbrev pub OwnsPass : Event K V → Slot → Type 0
  OwnsPass (Enter p) s = ⊤
  OwnsPass (Named n b es) s = ⊤
  OwnsPass (Done p op w) s = (0 < s.held) × (s.key + 1 ≡ p)
  OwnsPass (Moved b w) s = ⊤

  abbrev pub OwnsName : Event K V → Slot → Type 0
  OwnsName (Enter p) s = ⊤
  OwnsName (Named n b es) s = ⊤
  OwnsName (Done p op None) s = ⊤
  OwnsName (Done p op (Some w)) s = (0 < s.held) × (s.key + 1 ≡ name_of w)
  OwnsName (Moved b w) s = (0 < s.held) × (s.key + 1 ≡ name_of w)

  abbrev pub Fair : Event K V → Slot → Slot → Type 0
  Fair e pass name = OwnsPass e pass × OwnsName e name

  -- a new pass or a new name is the next one, and has no call or no install
  abbrev pub IsNext : Event K V → List (Event K V) → Type 0
  IsNext (Enter p) log = (p ≡ passes_of log + 1) × (total calls_in log (passes_of log) ≡ 0)
  IsNext (Named n b es) log = (n ≡ names_of log + 1) × (total installs_in log (names_of log) ≡ 0)
  IsNext (Done p op w) log = ⊤
  IsNext (Moved b w) log = ⊤

  -- each slot that is held tells the log's count
  abbrev pub Counts : List (Event K V) → Slot → Slot → Type 0
  Counts log pass name = Told calls_in passes_in log pass × Told installs_in names_in log name

  -- the same of entries
  abbrev pub at_key : (Event K V → ℕ → ℕ) → Entry K V → ℕ → ℕ
  at_key adds (Opened l) k = 0
  at_key adds (Happened e) k = adds e k

  abbrev pub of_entry : (Event K V → ℕ) → Entry K V → ℕ
  of_entry opens (Opened l) = 0
  of_entry opens (Happened e) = opens e

  -- the events of a log
  abbrev pub events : List (Entry K V) → List (Event K V)
  events [] = []
  events (Opened l ∷ log) = events log
  events (Happened e ∷ log) = e ∷ events log

  -- beside the log lie the board of the passes and the board of the names
  abbrev pub kept : List ℕ → List (Entry K V) → Fml
  kept names log = fsep (board (at_key calls_in) (of_entry passes_in) (board_at names 0) log) (board (at_key installs_in) (of_entry names_in) (board_at names 1) log)

  -- the entry that is asked for is an event, which may come next as far as the boards need it
  abbrev pub Fits : Entry K V → List (Entry K V) → Type 0
  Fits (Opened l) log = ⊥
  Fits (Happened e) log = IsNext e (events log)

  -- each step answers the log after it, and whether what was asked for was added
  abbrev pub Answered : Entry K V → List (Entry K V) → List (Entry K V) → Answer (Entry K V) → Type 0
  Answered ask xs ys r = (r.log ≡ ys) × MatchBool r.done ((ys ≡ xs ++ ask ∷ []) × Fits ask xs) (ys ≡ xs)

  -- ---- what who asks keeps beside the step: the event, and the two slots as numbers of entries
  abbrev pub number_of : Entry K V → ℕ
  number_of (Opened l) = 0
  number_of (Happened (Enter p)) = p
  number_of (Happened (Named n b es)) = 0
  number_of (Happened (Done p op w)) = 0
  number_of (Happened (Moved b w)) = 0

  abbrev pub nothing_asked : Event K V
  nothing_asked = Enter 0

  abbrev pub event_in : Entry K V → Event K V
  event_in (Opened l) = nothing_asked
  event_in (Happened e) = e

  abbrev pub entry_at : List (Entry K V) → ℕ → Entry K V
  entry_at es i = slice_index_or es i (Happened nothing_asked)

  abbrev pub number_at : List (Entry K V) → ℕ → ℕ
  number_at es i = number_of (entry_at es i)

  abbrev pub written : ℕ → Entry K V
  written n = Happened (Enter n)

  abbrev pub about_of : Event K V → Slot → Slot → List (Entry K V)
  about_of e p n = Happened e ∷ written p.held ∷ written p.key ∷ written p.count ∷ written n.held ∷ written n.key ∷ written n.count ∷ []

  abbrev pub asked_in : List (Entry K V) → Event K V
  asked_in es = event_in (entry_at es 0)

  abbrev pub pass_in : List (Entry K V) → Slot
  pass_in es = slot (number_at es 1) (number_at es 2) (number_at es 3)

  abbrev pub name_in : List (Entry K V) → Slot
  name_in es = slot (number_at es 4) (number_at es 5) (number_at es 6)

  abbrev pub pass_after : List (Entry K V) → Bool → Slot
  pass_after about done = after (on_pass (asked_in about)) done (pass_in about)

  abbrev pub name_after : List (Entry K V) → Bool → Slot
  name_after about done = after (on_name (asked_in about)) done (name_in about)

  -- the slots go as the event says, and each that is held tells the log's count
  abbrev pub traded : List ℕ → List (Entry K V) → Answer (Entry K V) → Fml
  traded names about r =
      fsep (slot_owns (board_at names 0) (pass_after about r.done))
      (fsep (slot_owns (board_at names 1) (name_after about r.done))
      (fact (Counts (events r.log) (pass_after about r.done) (name_after about r.done))))
