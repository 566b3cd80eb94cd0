-- Laws of lawful logs, which public functions state.
use Rattle.std.specs.Prelude.{◌≡◌, ◌<◌, ℕ, IsTrue, false, List, [], Option, length, slice_index_or}
use mathlib.Core.List.{IsPrefix}
use Rattle.far_object.specs.Buckets.{bucket}
use Rattle.table_core.specs.declared.event.Event.{Event}
use Rattle.table_core.specs.declared.event.Event.TheVariants.{Done}
use Rattle.table_core.specs.declared.operation.Operation.{Operation}
use Rattle.table_core.specs.declared.limits.Limits.{Limits}
use Rattle.table_core.specs.BucketWords.{name_of}
use Rattle.table_core.specs.Maps.{key_of, reply}
use Rattle.table_core.specs.Logs.{contents, history}
use Rattle.table_core.specs.Lawful.{IsDrawn, AreContents, IsLawful}
use Rattle.version_words.specs.Views.{PassView, AreNone, calls_of, WasSeen, Follows, IsAnswered, IsOfBucket, changed, has_object}

module _ (K V : Type 0) (ek : K → List ℕ) (ev : V → List ℕ) where
  -- the contents of a name that was drawn stay
  abbrev pub ContentsStay : Type 0
  ContentsStay = (l : Limits) (front log : List (Event K V)) (n b : ℕ) → IsLawful ek ev l log → IsPrefix front log → IsDrawn front n b
      → contents log n ≡ contents front n

  -- the contents of a word that was seen stay
  abbrev pub SeenStay : Type 0
  SeenStay = (l : Limits) (front log : List (Event K V)) (b w : ℕ) → IsLawful ek ev l log → IsPrefix front log → WasSeen ek l.buckets front b w
      → contents log (name_of w) ≡ contents front (name_of w)

  -- what an operation makes of a word that was seen belongs into its bucket
  abbrev pub ChangesFit : Type 0
  ChangesFit = (l : Limits) (log : List (Event K V)) (b w : ℕ) (o : Option (Operation K V)) → IsTrue l.honest → IsLawful ek ev l log
      → WasSeen ek l.buckets log b w → IsOfBucket ek l.buckets b o
      → AreContents ek l.buckets b (changed ek ev (contents log (name_of w)) o)

  -- a word without an object has no contents
  abbrev pub EmptyHolds : Type 0
  EmptyHolds = (l : Limits) (log : List (Event K V)) (b w : ℕ) → IsTrue l.honest → IsLawful ek ev l log → WasSeen ek l.buckets log b w
      → has_object w ≡ false → contents log (name_of w) ≡ []

  -- a call that was added behind a word that was seen is answered from the word's contents
  abbrev pub SeenAnswers : Type 0
  SeenAnswers = (l : Limits) (seen log : List (Event K V)) (b w pass : ℕ) (o : Operation K V) (new : Option ℕ) → IsTrue l.honest → IsLawful ek ev l log
      → bucket ek l.buckets (key_of o) ≡ b → WasSeen ek l.buckets seen b w → Follows ek l.buckets seen b w (Done pass o new) log
      → IsAnswered ek ev seen pass o (reply ek (contents seen (name_of w)) o) log

module _ (K V : Type 0) where
  -- a log with the calls that its beginning has of each of the passes, and with none of another pass, has the beginning's history, and so has each log between them
  abbrev pub SameHistory : Type 0
  SameHistory = (front log : List (Event K V)) (passes : List (PassView K V)) → IsPrefix front log
      → ((k : ℕ) (d : PassView K V) → k < length passes → calls_of (slice_index_or passes k d).number log ≡ calls_of (slice_index_or passes k d).number front)
      → ((pass : PassView K V) → AreNone pass passes → calls_of pass.number log ≡ [])
      → (between : List (Event K V)) → IsPrefix front between → IsPrefix between log → history between ≡ history front
