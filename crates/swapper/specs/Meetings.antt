-- One frame that the hand meets.
use Rattle.std.specs.Prelude.{◌≡◌, ℕ, zero, suc, ◌+◌, ◌<◌, ◌≤◌, Bool, true, false, ◌||◌, List, length, set, Option, Some, None, ◌⊎◌}
use Rattle.swapper.specs.Chances.{flag, at, marked, IsSwept}
use Rattle.swapper.specs.declared.flags.Met.{Met}
use Rattle.swapper.specs.declared.flags.Met.TheVariants as met

-- what a frame is, by these two answers and its mark
abbrev pub Finds : ℕ → List Bool → List Bool → Bool → Bool → Met → Type 0
Finds frame old new held touched met.Held = (held ≡ true) × (touched ≡ false) × (new ≡ old)
Finds frame old new held touched met.Marked = (held ≡ false) × ((flag old frame || touched) ≡ true) × (new ≡ set old frame false)
Finds frame old new held touched met.Free = (held ≡ false) × ((flag old frame || touched) ≡ false) × (new ≡ old)

-- a frame was asked, with these answers
pub record IsMet (may_hold may_touch : ℕ → Bool → Type 0) (frame : ℕ) (old new : List Bool) (m : Met) : Type 0 where
  pub held : Bool
  pub touched : Bool
  pub may_hold_it : may_hold frame held
  pub may_touch_it : held ≡ false → may_touch frame touched
  pub finds : Finds frame old new held touched m

-- the hand goes on behind it: it is held or marked
abbrev pub IsPassed : (ℕ → Bool) → (ℕ → Bool) → List Bool → ℕ → ℕ → Type 0
IsPassed held touched old hand k = (held k || marked held touched old hand k) ≡ true

-- the hand passes all frames before it
abbrev pub IsReached : (ℕ → Bool) → (ℕ → Bool) → List Bool → ℕ → ℕ → Type 0
IsReached held touched old hand k = (j : ℕ) → j < k → IsPassed held touched old hand j

-- the first n frames from the hand were asked, one after another, and each did so to the state
abbrev pub Asks : {S : Type 0} → (ℕ → S → S → Type 0) → ℕ → ℕ → ℕ → S → S → Type 0
Asks {S} goes count hand zero s t = t ≡ s
Asks {S} goes count hand (suc n) s t = (u : S) × Asks goes count hand n s u × goes (at count hand n) u t

-- a walk: a sweep by the flags that the frames may answer. It asks the first n frames from the hand, once each, and all of them but the last are passed
pub record IsWalked (may_hold may_touch : ℕ → Bool → Type 0) (old : List Bool) (hand n : ℕ) (new : List Bool) (new_hand : ℕ) (result : Option ℕ) : Type 0 where
  pub held : ℕ → Bool
  pub touched : ℕ → Bool
  pub may_hold_all : (k : ℕ) → may_hold (at (length old) hand k) (held k)
  pub may_touch_some : (k : ℕ) → (touched k ≡ false) ⊎ may_touch (at (length old) hand k) (touched k)
  pub may_touch_met : (k : ℕ) → k < length old → IsReached held touched old hand k → held k ≡ false → may_touch (at (length old) hand k) (touched k)
  pub once : n ≤ length old
  pub asked : (j : ℕ) → j + 1 < n → IsPassed held touched old hand j
  pub swept : IsSwept held touched old hand new new_hand result

-- the frame that was found first
abbrev pub or_this : Option ℕ → ℕ → Option ℕ
or_this None f = Some f
or_this (Some v) f = Some v
