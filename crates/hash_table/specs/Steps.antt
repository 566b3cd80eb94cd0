-- What a finished change or move leaves: its object lies where its word says, and the word that it replaced is a spare.
use Rattle.std.specs.Prelude.{◌≡◌, ℕ, ◌<◌, IsTrue, Bool, true, false, List, [], ◌∷◌, ◌++◌, Option, Some, None, option_to_list, ⊤, ◌⊎◌}
use Rattle.std.specs.List.{AllByRecursion}
use Rattle.far_object.specs.declared.format.Format.{Format}
use Rattle.table_core.specs.declared.event.Event.{Event}
use Rattle.table_core.specs.declared.event.Event.TheVariants.{Done, Moved}
use Rattle.table_core.specs.declared.limits.Limits.{Limits}
use Rattle.table_core.specs.declared.operation.Operation.{Operation}
use Rattle.table_core.specs.BucketWords.{name_of, place_of, empty_place, far_place}
use Rattle.table_core.specs.Maps.{after, at_bucket, map_of}
use Rattle.table_core.specs.Logs.{history, word}
use Rattle.version_words.specs.Views.{PassView, SpareView, Follows, ChangesNothing, spare_of}
use Rattle.version_words.specs.Faults.{WasOvertaken}
use Rattle.frame_cache.specs.Fills.{WasFilled}
use Rattle.lane_store.specs.Stores.{WasStored}
use Rattle.hash_table.specs.Changes.{Sets}
use Rattle.hash_table.specs.Calls.{IsTooLong}
use Rattle.hash_table.specs.declared.refusal.Refusal.{Refusal}
use Rattle.hash_table.specs.declared.refusal.Refusal.TheVariants as refusal
use Rattle.hash_table.specs.declared.round.Round.{Round}
use Rattle.hash_table.specs.declared.round.Round.TheVariants.{Finished, Again}

-- the word's object was put into the frame that is its place, one of so many: only `Reserved::fill` tells so
abbrev pub IsInFrame : ℕ → ℕ → ℕ → Type 0
IsInFrame frames b w = (place_of w < frames) × WasFilled (place_of w) b (name_of w)

-- the word's place is the device, and a lane took its object in this format: only `LaneStore::write` tells so
abbrev pub IsOnDevice : Format → ℕ → ℕ → Type 0
IsOnDevice format b w = (place_of w ≡ far_place) × WasStored format b (name_of w)

module _ {K V : Type 0} where
  -- the object of a call's new word was put into its frame, one of so many. An object of no pairs lies nowhere, but a call that may set its key leaves none such; and a call that leaves its bucket has no new word
  abbrev pub Lies : ℕ → ℕ → Operation K V → Option ℕ → Type 0
  Lies frames b o None = ⊤
  Lies frames b o (Some w) = ((place_of w ≡ empty_place) × (Sets o → ⊥)) ⊎ IsInFrame frames b w

  -- the spare of the word that a new one replaced, where it has an object
  abbrev pub left_of : ℕ → ℕ → Option ℕ → List (Event K V) → List (SpareView K V)
  left_of b old None log = []
  left_of b old (Some w) log = option_to_list (spare_of b old log)

  -- one spare came to the others, of a name that was given up
  abbrev pub GaveOneUp : (SpareView K V → Type 0) → List (SpareView K V) → List (SpareView K V) → Type 0
  GaveOneUp P before after = (s : SpareView K V) × (after ≡ before ++ s ∷ []) × P s

  -- no spare came, or that of a name that was given up
  abbrev pub MayGiveUp : (SpareView K V → Type 0) → List (SpareView K V) → List (SpareView K V) → Type 0
  MayGiveUp P before after = (after ≡ before) ⊎ GaveOneUp P before after

  -- spares came of names that were given up, and no other
  abbrev pub GaveUp : (SpareView K V → Type 0) → List (SpareView K V) → List (SpareView K V) → Type 0
  GaveUp P before after = (ups : List (SpareView K V)) × (after ≡ before ++ ups) × AllByRecursion P ups

  -- the spare's word was to be the bucket's, and its object was put into its frame
  abbrev pub IsOfFrame : ℕ → ℕ → SpareView K V → Type 0
  IsOfFrame frames b s = (s.bucket ≡ b) × IsInFrame frames b s.word

  -- the spare's word was to be the bucket's, with the device for its place
  abbrev pub IsOfDevice : ℕ → SpareView K V → Type 0
  IsOfDevice b s = (s.bucket ≡ b) × (place_of s.word ≡ far_place)

  -- where a name was drawn it was given up; none was where another one overtook it, at this front: only `Words::name` tells so
  abbrev pub GivesBack : (SpareView K V → Type 0) → List (Event K V) → List (SpareView K V) → List (SpareView K V) → Type 0
  GivesBack P log before after = ((after ≡ before) × WasOvertaken log) ⊎ GaveOneUp P before after

  -- what a refused change leaves among the spares: of one that leaves its bucket, and of an object of no pairs, which lies nowhere, no spare comes
  abbrev pub LeavesSpares : (SpareView K V → Type 0) → List (SpareView K V) → List (SpareView K V) → Refusal → Type 0
  LeavesSpares P before after refusal.Moved = MayGiveUp P before after
  LeavesSpares P before after _ = after ≡ before

  -- what a refused swap-in leaves there, or the installing of an object in a frame
  abbrev pub FetchLeavesSpares : (SpareView K V → Type 0) → List (Event K V) → List (SpareView K V) → List (SpareView K V) → Refusal → Type 0
  FetchLeavesSpares P log before after refusal.Moved = GivesBack P log before after
  FetchLeavesSpares P log before after _ = after ≡ before

  -- what a refused swap-out leaves there: where the lane refused, its name was drawn
  abbrev pub SwapLeavesSpares : (SpareView K V → Type 0) → List (Event K V) → List (SpareView K V) → List (SpareView K V) → Refusal → Type 0
  SwapLeavesSpares P log before after refusal.Moved = GivesBack P log before after
  SwapLeavesSpares P log before after refusal.Memory = GaveOneUp P before after
  SwapLeavesSpares P log before after refusal.Device = GaveOneUp P before after
  SwapLeavesSpares P log before after _ = after ≡ before

module _ {K V : Type 0} (ek : K → List ℕ) (ev : V → List ℕ) (l : Limits) where
  -- where the operation leaves its bucket no pair, the new word's place is the empty one
  abbrev pub TakesNoFrame : ℕ → Operation K V → Option ℕ → List (Event K V) → Type 0
  TakesNoFrame b o None log = ⊤
  TakesNoFrame b o (Some w) log = after ek ev (at_bucket ek l.buckets b (map_of ek ev (history log))) o ≡ [] → place_of w ≡ empty_place

  -- where the operation leaves its bucket as it is there is no new word
  abbrev pub TakesNoName : ℕ → Operation K V → Option ℕ → List (Event K V) → Type 0
  TakesNoName b o None log = ⊤
  TakesNoName b o (Some w) log = ChangesNothing ek ev (at_bucket ek l.buckets b (map_of ek ev (history log))) o → ⊥

  -- the call stands last, its object was not too long and lies where its word says, and the word before it is the newest spare
  pub record IsInstalled (limit frames b : ℕ) (o : Operation K V) (old : PassView K V) (before : List (SpareView K V)) (new : PassView K V) (after : List (SpareView K V)) : Type 0 where
    pub was : ℕ
    pub word : Option ℕ
    pub follows : Follows ek l.buckets old.front b was (Done old.number o word) new.front
    pub lies : Lies frames b o word
    pub fits : IsTrue l.honest → IsTooLong ek ev l limit b o follows.0 → ⊥
    pub empty : IsTrue l.honest → TakesNoFrame b o word follows.0
    pub idle : IsTrue l.honest → TakesNoName b o word follows.0
    pub limbo : after ≡ before ++ left_of b was word new.front

  -- the same, after rounds that may have given names up
  abbrev pub IsInstalledLater : ℕ → ℕ → ℕ → Operation K V → PassView K V → List (SpareView K V) → PassView K V → List (SpareView K V) → Type 0
  IsInstalledLater limit frames b o old before new after = (mid : List (SpareView K V)) × GaveUp (IsOfFrame frames b) before mid × IsInstalled limit frames b o old mid new after

  -- what a round leaves among the spares
  abbrev pub IsRoundLeft : ℕ → ℕ → ℕ → Operation K V → PassView K V → List (SpareView K V) → Round V → PassView K V → List (SpareView K V) → Type 0
  IsRoundLeft limit frames b o old before (Finished answer) new after = IsInstalled limit frames b o old before new after
  IsRoundLeft limit frames b o old before Again new after = MayGiveUp (IsOfFrame frames b) before after

module _ {K V : Type 0} (ek : K → List ℕ) (l : Limits) where
  -- after a refused swap-in the bucket is far as it was, but where another thread, or the draw of a name, came between
  abbrev pub IsUnfetched : ℕ → List (Event K V) → Refusal → Type 0
  IsUnfetched b log refusal.Moved = ⊤
  IsUnfetched b log refusal.NamesSpent = ⊤
  IsUnfetched b log refusal.LimboFull = ⊤
  IsUnfetched b log _ = place_of (word ek l.buckets log b) ≡ far_place

  -- after a swap-out that its frame did not give the version for, the bucket's object lies there as it did
  abbrev pub IsUnswapped : ℕ → ℕ → List (Event K V) → Refusal → Type 0
  IsUnswapped b frame log refusal.Missed = place_of (word ek l.buckets log b) ≡ frame
  IsUnswapped b frame log _ = ⊤

  -- a move of the bucket stands last, from a place that is so to a word that is so, and the word before it is the newest spare
  pub record IsMovedOver (b : ℕ) (From To : ℕ → Type 0) (old : PassView K V) (before : List (SpareView K V)) (new : PassView K V) (after : List (SpareView K V)) : Type 0 where
    pub was : ℕ
    pub word : ℕ
    pub from : From (place_of was)
    pub to : To word
    pub follows : Follows ek l.buckets old.front b was (Moved b word) new.front
    pub limbo : after ≡ before ++ option_to_list (spare_of b was new.front)

  -- the bucket's object went from this frame to the device, in this format, or no spare came
  abbrev pub IsSwapped : Format → ℕ → PassView K V → List (SpareView K V) → PassView K V → List (SpareView K V) → Bool → Type 0
  IsSwapped format frame old before new after true = (b : ℕ) × IsMovedOver b (λ p. p ≡ frame) (IsOnDevice format b) old before new after
  IsSwapped format frame old before new after false = after ≡ before
