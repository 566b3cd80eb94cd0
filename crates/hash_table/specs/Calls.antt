-- What a call of the table tells of the logs that its caller has seen.
use Rattle.std.specs.Prelude.{◌≡◌, ◌≢◌, ℕ, ◌<◌, IsTrue, List, [], ◌∷◌, ◌++◌, Option, ⊤, ◌⊎◌}
use mathlib.Core.List.{IsPrefix}
use Rattle.table_core.specs.declared.event.Event.{Event}
use Rattle.table_core.specs.declared.event.Event.TheVariants.{Done}
use Rattle.table_core.specs.declared.limits.Limits.{Limits}
use Rattle.table_core.specs.declared.operation.Operation.{Operation}
use Rattle.table_core.specs.BucketWords.{place_of, far_place}
use Rattle.table_core.specs.Maps.{at_bucket, map_of}
use Rattle.table_core.specs.Logs.{history, names_of, word}
use Rattle.version_words.specs.Views.{PassView, Calls, EndsWith, IsAnswered}
use Rattle.version_words.specs.Faults.{WasOvertaken}
use Rattle.hash_table.specs.Changes.{Sets, IsTooLongFor}
use Rattle.hash_table.specs.declared.refusal.Refusal.{Refusal}
use Rattle.hash_table.specs.declared.refusal.Refusal.TheVariants as refusal

-- how many spares a caller keeps
abbrev pub most_spares : ℕ
most_spares = 64

-- the list is the same, or has one more at its end
abbrev pub AtMostOneMore : {A : Type 0} → List A → List A → Type 0
AtMostOneMore {A} old new = (new ≡ old) ⊎ ((x : A) × (new ≡ old ++ x ∷ []))

module _ {K V : Type 0} where
  -- a log that was seen in the call is so: it begins with the old front, and the new one begins with it
  abbrev pub SeenInCall : PassView K V → PassView K V → (List (Event K V) → Type 0) → Type 0
  SeenInCall old new P = (log : List (Event K V)) × IsPrefix old.front log × IsPrefix log new.front × P log

module _ {K V : Type 0} (ek : K → List ℕ) (ev : V → List ℕ) (l : Limits) where
  -- the call is the caller's last, stands last in the log, and the map of the calls before it answers so
  pub record IsFinished (old : PassView K V) (o : Operation K V) (answer : Option V) (new : PassView K V) : Type 0 where
    pub call : Calls old new o
    pub last : (w : Option ℕ) × EndsWith old.front (Done old.number o w) new.front
    pub answered : IsTrue l.honest → IsAnswered ek ev old.front old.number o answer new.front

  -- the bucket's word has the device for its place
  abbrev pub IsFar : ℕ → List (Event K V) → Type 0
  IsFar b log = place_of (word ek l.buckets log b) ≡ far_place

  -- the bucket's word has another place
  abbrev pub IsNear : ℕ → List (Event K V) → Type 0
  IsNear b log = place_of (word ek l.buckets log b) ≢ far_place

  -- the bucket's word is another one now, or another name was drawn where this call was to draw one
  abbrev pub HasMoved : ℕ → List (Event K V) → List (Event K V) → Type 0
  HasMoved b now log = (word ek l.buckets now b ≢ word ek l.buckets log b) ⊎ ((names_of log < names_of now) × WasOvertaken now)

  -- the operation is too long for the bucket's map
  abbrev pub IsTooLong : ℕ → ℕ → Operation K V → List (Event K V) → Type 0
  IsTooLong limit b o log = IsTooLongFor ek ev limit (at_bucket ek l.buckets b (map_of ek ev (history log))) o

  -- why a call of this bucket is refused; of the others nothing is said
  abbrev pub IsRefused : ℕ → PassView K V → PassView K V → Refusal → Type 0
  IsRefused b old new refusal.Far = IsFar b new.front
  IsRefused b old new refusal.Moved = SeenInCall old new (HasMoved b new.front)
  IsRefused b old new refusal.NamesSpent = names_of new.front ≡ l.names
  IsRefused b old new refusal.Damaged = IsTrue l.honest → ⊥
  IsRefused b old new _ = ⊤

  -- why a change of this bucket is refused
  abbrev pub IsUnchanged : ℕ → ℕ → Operation K V → PassView K V → PassView K V → Refusal → Type 0
  IsUnchanged limit b o old new refusal.TooLong = Sets o × (IsTrue l.honest → SeenInCall old new (IsTooLong limit b o))
  IsUnchanged limit b o old new e = IsRefused b old new e

-- where it says that the limbo is full, so many spares waited
abbrev pub IsFull : Refusal → ℕ → Type 0
IsFull refusal.LimboFull n = n ≡ most_spares
IsFull _ n = ⊤
