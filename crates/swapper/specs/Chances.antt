-- Second chance: whom the clock gives up. Frames are counted in steps from the hand, going round.
use Rattle.std.specs.Prelude.{◌≡◌, ℕ, zero, suc, ◌+◌, ◌-◌, ◌<◌, ◌==◌, ltb, Bool, false, not, ◌&&◌, ◌||◌, cond, List, length, get_or, Option, Some, None}

-- a mark for each frame, and the frame to which the hand points
pub record ClockView : Type 0 where
  pub marks : List Bool
  pub hand : ℕ

-- the frame so many steps from the hand
abbrev pub at : ℕ → ℕ → ℕ → ℕ
at count hand k = cond (ltb (hand + k) count) (hand + k) (hand + k - count)

-- the frame after this one
abbrev pub next : ℕ → ℕ → ℕ
next count frame = cond (frame + 1 == count) 0 (frame + 1)

-- the flag of a frame
abbrev pub flag : List Bool → ℕ → Bool
flag flags frame = get_or flags frame false

-- the first of n steps, from the step k on, at which t is true
abbrev pub first : (ℕ → Bool) → ℕ → ℕ → Option ℕ
first t zero k = None
first t (suc n) k = cond (t k) (Some k) (first t n (k + 1))

-- the first that isn't held, at which all marks of those that aren't held go
abbrev pub unheld : ℕ → Option ℕ → Option (ℕ × ℕ)
unheld count None = None
unheld count (Some k) = Some (k, count)

-- the first that is neither held nor marked, up to which the marks go; else the first that isn't held
abbrev pub unmarked : ℕ → Option ℕ → Option ℕ → Option (ℕ × ℕ)
unmarked count None other = unheld count other
unmarked count (Some k) other = Some (k, k)

-- second chance: the steps to the victim, and for how many steps marks go
abbrev pub chance : (ℕ → Bool) → (ℕ → Bool) → ℕ → Option (ℕ × ℕ)
chance held marked count = unmarked count (first (λ k. not (held k) && not (marked k)) count 0) (first (λ k. not (held k)) count 0)

-- the victim, the hand afterwards, and for how many steps marks went
abbrev pub victim : ℕ → ℕ → Option (ℕ × ℕ) → Option ℕ
victim count hand None = None
victim count hand (Some c) = Some (at count hand c.0)

abbrev pub hand_after : ℕ → ℕ → Option (ℕ × ℕ) → ℕ
hand_after count hand None = hand
hand_after count hand (Some c) = next count (at count hand c.0)

abbrev pub spent : Option (ℕ × ℕ) → ℕ
spent None = 0
spent (Some c) = c.1

module _ (held touched : ℕ → Bool) (marks : List Bool) (hand : ℕ) where
  -- whether the frame k steps from the hand is marked, or was touched since
  abbrev pub marked : ℕ → Bool
  marked k = flag marks (at (length marks) hand k) || touched k

  abbrev pub chosen : Option (ℕ × ℕ)
  chosen = chance held marked (length marks)

  -- a sweep: the victim, the new marks and the new hand
  pub record IsSwept (new_marks : List Bool) (new_hand : ℕ) (result : Option ℕ) : Type 0 where
    pub victim_is : result ≡ victim (length marks) hand chosen
    pub hand_is : new_hand ≡ hand_after (length marks) hand chosen
    pub count_stays : length new_marks ≡ length marks
    pub marks_are : (k : ℕ) → k < length marks → flag new_marks (at (length marks) hand k) ≡ (marked k && (held k || not (ltb k (spent chosen))))
