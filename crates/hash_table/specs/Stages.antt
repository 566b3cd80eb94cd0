-- What the stages of a call tell.
use Rattle.std.specs.Prelude.{◌≡◌, ◌≢◌, ℕ, ◌<◌, Bool, IsTrue, true, false, List, ⊤, ◌⊎◌}
use Rattle.table_core.specs.declared.limits.Limits.{Limits}
use Rattle.table_core.specs.declared.operation.Operation.{Operation}
use Rattle.table_core.specs.BucketWords.{place_of, empty_place, far_place}
use Rattle.table_core.specs.Logs.{names_of, word}
use Rattle.version_words.specs.Views.{PassView, has_object}
use Rattle.version_words.specs.Faults.{WasOvertaken}
use Rattle.hash_table.specs.Changes.{Sets, IsTooLongFor}
use Rattle.hash_table.specs.declared.refusal.Refusal.{Refusal}
use Rattle.hash_table.specs.declared.refusal.Refusal.TheVariants as refusal
use Rattle.hash_table.specs.declared.stages.seen.Place.{Place}
use Rattle.hash_table.specs.declared.stages.seen.Place.TheVariants.{Nothing, Frame, Device}

-- where the contents of a word lie
abbrev pub IsPlace : ℕ → Place → Type 0
IsPlace w Nothing = has_object w ≡ false
IsPlace w (Frame f) = (has_object w ≡ true) × (place_of w ≡ f) × (f < empty_place)
IsPlace w Device = (has_object w ≡ true) × (place_of w ≡ far_place)

-- the contents of a word lie in a frame
abbrev pub IsLocal : ℕ → Type 0
IsLocal w = (has_object w ≡ true) × (place_of w < empty_place)

-- why the contents of a word were not read from a frame
abbrev pub IsUnread : ℕ → Refusal → Type 0
IsUnread w refusal.Memory = ⊤
IsUnread w refusal.Far = place_of w ≡ far_place
IsUnread w refusal.Missed = ⊤
IsUnread w _ = ⊥

-- why the contents of a word were read neither from a frame nor from the device
abbrev pub IsUnreadFar : Bool → Refusal → Type 0
IsUnreadFar is_honest refusal.Memory = ⊤
IsUnreadFar is_honest refusal.Missed = ⊤
IsUnreadFar is_honest refusal.Device = ⊤
IsUnreadFar is_honest refusal.Damaged = IsTrue is_honest → ⊥
IsUnreadFar is_honest _ = ⊥

module _ {K V : Type 0} (ek : K → List ℕ) (ev : V → List ℕ) where
  -- why nothing was made of contents
  abbrev pub IsUnmade : ℕ → List (K × V) → Operation K V → Refusal → Type 0
  IsUnmade limit es o refusal.Memory = ⊤
  IsUnmade limit es o refusal.TooLong = IsTooLongFor ek ev limit es o
  IsUnmade limit es o _ = ⊥

  -- why nothing was made of the contents of a word, which lie in a frame
  abbrev pub IsUnbuilt : Bool → ℕ → ℕ → List (K × V) → Operation K V → Refusal → Type 0
  IsUnbuilt is_honest limit w es o refusal.Memory = ⊤
  IsUnbuilt is_honest limit w es o refusal.Far = place_of w ≡ far_place
  IsUnbuilt is_honest limit w es o refusal.Missed = ⊤
  IsUnbuilt is_honest limit w es o refusal.TooLong = Sets o × (IsTrue is_honest → IsTooLongFor ek ev limit es o)
  IsUnbuilt is_honest limit w es o _ = ⊥

  -- why nothing was made of the contents of a word, wherever they lie
  abbrev pub IsUnbuiltFar : Bool → ℕ → List (K × V) → Operation K V → Refusal → Type 0
  IsUnbuiltFar is_honest limit es o refusal.Memory = ⊤
  IsUnbuiltFar is_honest limit es o refusal.Missed = ⊤
  IsUnbuiltFar is_honest limit es o refusal.TooLong = Sets o × (IsTrue is_honest → IsTooLongFor ek ev limit es o)
  IsUnbuiltFar is_honest limit es o refusal.Device = ⊤
  IsUnbuiltFar is_honest limit es o refusal.Damaged = IsTrue is_honest → ⊥
  IsUnbuiltFar is_honest limit es o _ = ⊥

module _ {K V : Type 0} where
  -- where no frame was free nothing was done
  abbrev pub IsUntouched : PassView K V → PassView K V → Refusal → Type 0
  IsUntouched old new refusal.NoFrame = new ≡ old
  IsUntouched old new _ = ⊤

module _ {K V : Type 0} (l : Limits) where
  -- why no name was drawn: the last one was, or another was drawn meanwhile
  abbrev pub IsUndrawn : PassView K V → PassView K V → Refusal → Type 0
  IsUndrawn old new refusal.NamesSpent = names_of new.front ≡ l.names
  IsUndrawn old new refusal.Moved = (names_of old.front < names_of new.front) × WasOvertaken new.front
  IsUndrawn old new _ = ⊥

module _ {K V : Type 0} (ek : K → List ℕ) (l : Limits) where
  -- why nothing was installed over the word
  abbrev pub IsUnpublished : ℕ → ℕ → PassView K V → PassView K V → Refusal → Type 0
  IsUnpublished b w old new refusal.NoFrame = ⊤
  IsUnpublished b w old new refusal.NamesSpent = names_of new.front ≡ l.names
  IsUnpublished b w old new refusal.Moved = (word ek l.buckets new.front b ≢ w) ⊎ ((names_of old.front < names_of new.front) × WasOvertaken new.front)
  IsUnpublished b w old new _ = ⊥
