-- The plain table: a machine, and the object of each bucket.
use Rattle.std.specs.Prelude.{◌≡◌, ℕ, ◌+◌, ◌<◌, ◌≤◌, false, IsTrue, List, [], ◌∷◌, ◌++◌, length, slice_index_or, Option, Some, None, Result, Ok, Err, MatchResult, ⊤}
use Rattle.far_object.specs.Encodings.{enc_text}
use Rattle.far_object.specs.Objects.{object_of}
use Rattle.table_core.specs.declared.event.Event.{Event}
use Rattle.table_core.specs.declared.operation.Operation.TheVariants as op
use Rattle.table_core.specs.BucketWords.{name_of, place_of, empty_place}
use Rattle.table_core.specs.Maps.{after, reply, map_of}
use Rattle.table_core.specs.Logs.{history, passes_of, names_of}
use Rattle.table_core.specs.Lawful.{standing, widest}
use Rattle.table_core.specs.Machines.{buckets_of, StandsAt}
use Rattle.run_lines.specs.declared.refusal.LineRefusal.{LineRefusal}
use Rattle.run_lines.specs.declared.refusal.LineRefusal.TheVariants as refusal
use Rattle.run_lines.specs.Calls.{Texts, Asked, sets, IsTooLong}
use Rattle.plain_run.specs.declared.table.PlainTable.{PlainTable}

abbrev pub Log : Type 0
Log = List (Event (List ℕ) (List ℕ))

abbrev pub object_in : List Texts → ℕ → Texts
object_in objects b = slice_index_or objects b []

-- the word has the name that is drawn next, and the place EMPTY just where the contents are no pair
pub record IsDrawnWord (log : Log) (es : Texts) (word : ℕ) : Type 0 where
  pub name : name_of word ≡ names_of log + 1
  pub empty : place_of word ≡ empty_place → es ≡ []

-- the machine stands at the log, its first pass has entered, and the objects are the contents that stand in the buckets
pub record IsAt (t : PlainTable) (log : Log) : Type 0 where
  pub machine : StandsAt enc_text enc_text t.machine log
  pub sized : length t.objects.items ≡ buckets_of t.machine
  pub objects : (b : ℕ) → b < buckets_of t.machine → object_in t.objects.items b ≡ standing enc_text enc_text (widest (buckets_of t.machine)) log b
  pub entered : 1 ≤ passes_of log
  pub limited : t.limit ≤ 1048576

-- ---- the object that an operation makes of its bucket's

-- a put installs a word, and a get none
abbrev pub MayInstall : Asked → Option ℕ → Type 0
MayInstall (op.Put k v) None = ⊥
MayInstall (op.Get k) (Some w) = ⊥
MayInstall _ _ = ⊤

-- it is not made: too long where the operation sets its key and the object is
abbrev pub IsUnmade : ℕ → Texts → Asked → LineRefusal → Type 0
IsUnmade limit es o refusal.TooLong = IsTrue (sets es o) × (limit < length (object_of enc_text enc_text (after enc_text enc_text es o)))
IsUnmade limit es o refusal.Memory = ⊤
IsUnmade limit es o _ = ⊥

-- a new object where the operation changes the bucket, which is not too long where it sets its key; and else none
abbrev pub Makes : ℕ → Texts → Asked → Result (Option Texts) LineRefusal → Type 0
Makes limit es o (Ok None) = (after enc_text enc_text es o ≡ es) × (sets es o ≡ false) × MayInstall o None
Makes limit es o (Ok (Some new)) =
    (new ≡ after enc_text enc_text es o) × (IsTrue (sets es o) → length (object_of enc_text enc_text new) ≤ limit) × ((w : ℕ) → MayInstall o (Some w))
Makes limit es o (Err why) = IsUnmade limit es o why

-- ---- calls

-- why a command is refused: too long where it is, or for want of memory
abbrev pub IsWhy : ℕ → ℕ → Texts → Asked → LineRefusal → Type 0
IsWhy buckets limit m o refusal.TooLong = IsTooLong buckets limit m o
IsWhy buckets limit m o refusal.Memory = ⊤
IsWhy buckets limit m o _ = ⊥

-- a call is done and answered as the map of the history answers it, or is refused and leaves the history as it was
pub record CallEnds (old new : PlainTable) (log : Log) (o : Asked) (r : Result (Option (List ℕ)) LineRefusal) : Type 0 where
  pub later : Log
  pub stands : IsAt new later
  pub buckets : buckets_of new.machine ≡ buckets_of old.machine
  pub limit : new.limit ≡ old.limit
  pub names : names_of later ≤ names_of log + 1
  pub went : MatchResult r
      (λ answer. (history later ≡ history log ++ (1, o) ∷ [])
      × (answer ≡ reply enc_text (map_of enc_text enc_text (history log)) o)
      × (IsTooLong (buckets_of old.machine) old.limit (map_of enc_text enc_text (history log)) o → ⊥))
      (λ why. (history later ≡ history log) × IsWhy (buckets_of old.machine) old.limit (map_of enc_text enc_text (history log)) o why)
