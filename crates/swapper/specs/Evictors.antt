-- What an evictor does: where spares go, and whom it gives up.
use Rattle.std.specs.Prelude.{◌≡◌, ℕ, ◌+◌, ◌-◌, ◌^◌, ◌<◌, ◌≤◌, min, Bool, false, true, List, [], ◌∷◌, ◌++◌, ◌⊎◌, length, Option, Some, None, Result, Ok, Err, IfOk, IfErr, IfSome, IfNone}
use mathlib.Core.List.{IsPrefix}
use Rattle.far_object.specs.declared.format.Format.{Format}
use Rattle.table_core.specs.BucketWords.{place_of, far_place}
use Rattle.table_core.specs.declared.event.Event.{Event}
use Rattle.table_core.specs.declared.limits.Limits.{Limits}
use Rattle.version_words.specs.Views.{PassView, SpareView, Goes}
use Rattle.hash_table.specs.Calls.{AtMostOneMore, IsRefused, IsFull as IsLimboFull}
use Rattle.hash_table.specs.Reclaims.{WasTried, IsReclaimed}
use Rattle.hash_table.specs.Refusals.{OfSwapOut, WasRefused}
use Rattle.hash_table.specs.Steps.{IsSwapped, IsOfDevice, SwapLeavesSpares}
use Rattle.hash_table.specs.declared.caller.Caller.{Caller}
use Rattle.hash_table.specs.declared.refusal.Refusal.{Refusal}
use Rattle.swapper.specs.Chances.{ClockView}
use Rattle.swapper.specs.Meetings.{IsWalked}
use Rattle.swapper.specs.Seats.{TakesNext}
use Rattle.swapper.specs.declared.rule.SeatView.{SeatView}
use Rattle.swapper.specs.declared.evictor.Collected.{Collected}
use Rattle.swapper.specs.declared.evictor.Turn.{Turn}

-- its caller's pass and limbo, what its seat knows, its clock, the spares that it keeps and the room for them
pub record EvictorView (K V : Type 0) : Type 0 where
  pub pass : PassView K V
  pub limbo : List (SpareView K V)
  pub seat : SeatView (SpareView K V)
  pub clock : ClockView
  pub kept : List (SpareView K V)
  pub room : ℕ

-- a count as it is shown: past the greatest number of 64 bits it stays there
abbrev pub shown : ℕ → ℕ
shown n = min n (2 ^ 64 - 1)

module _ {K V : Type 0} where
  -- ---- one step

  -- its pass goes on and makes no call, its clock stands, and nothing grows
  pub record Works (old new : EvictorView K V) : Type 0 where
    pub goes : Goes old.pass new.pass
    pub clock : new.clock ≡ old.clock
    pub room : new.room ≡ old.room

  -- its object is on the device, or would be
  abbrev pub IsFar : SpareView K V → Type 0
  IsFar s = place_of s.word ≡ far_place

  -- it was tried, and the log begins with what it says. If the device failed before, its object is not there, so that the device is not asked again
  abbrev pub IsAsked : List (Event K V) → Bool → SpareView K V → Type 0
  IsAsked log before s = WasTried s × IsPrefix s.front log × (IsFar s → before ≡ false)

  -- it is kept, for one of these reasons. It was tried and came back, and whether the device has failed is as before; it was tried and the device failed at it; or it was not tried, since
  -- the device had failed before and its object is there
  abbrev pub IsKept : List (Event K V) → Bool → SpareView K V → Bool → Type 0
  IsKept log before s after = (IsAsked log before s × ((after ≡ before) ⊎ (IsFar s × (after ≡ true)))) ⊎ ((before ≡ true) × IsFar s × (after ≡ true))

  -- what became of one spare beside those kept: it was tried and reclaimed, or it is kept as the last one. So many were reclaimed. The flags tell whether the device failed before it, and by then
  abbrev pub IsDealtWith : List (Event K V) → Bool → List (SpareView K V) → SpareView K V → ℕ → List (SpareView K V) → Bool → Type 0
  IsDealtWith log before kept s reclaimed new after = ((reclaimed ≡ 1) × (new ≡ kept) × (after ≡ before) × IsAsked log before s × IsReclaimed s)
      ⊎ ((reclaimed ≡ 0) × (new ≡ kept ++ s ∷ []) × IsKept log before s after)

  -- the spare is kept as the last one, and nothing else is done
  pub record KeepsLast (old new : EvictorView K V) (s : SpareView K V) : Type 0 where
    pub works : Works old new
    pub kept : new.kept ≡ old.kept ++ s ∷ []
    pub limbo : new.limbo ≡ old.limbo
    pub seat : new.seat ≡ old.seat

  -- one spare was dealt with
  pub record Tries (old new : EvictorView K V) (s : SpareView K V) (before : Bool) (reclaimed : ℕ) (after : Bool) : Type 0 where
    pub works : Works old new
    pub kept : IsDealtWith new.pass.front before old.kept s reclaimed new.kept after
    pub limbo : new.limbo ≡ old.limbo
    pub seat : new.seat ≡ old.seat

  -- it stands as it was
  pub record Stays (old new : EvictorView K V) : Type 0 where
    pub works : Works old new
    pub kept : new.kept ≡ old.kept
    pub limbo : new.limbo ≡ old.limbo
    pub seat : new.seat ≡ old.seat

  -- the first of the kept spares was drawn, and there is room for it
  pub record DrawsKept (old new : EvictorView K V) (s : SpareView K V) : Type 0 where
    pub works : Works old new
    pub kept : old.kept ≡ s ∷ new.kept
    pub limbo : new.limbo ≡ old.limbo
    pub seat : new.seat ≡ old.seat
    pub fits : length new.kept < new.room

  -- the oldest of its limbo was
  pub record DrawsOwn (old new : EvictorView K V) (s : SpareView K V) : Type 0 where
    pub works : Works old new
    pub kept : new.kept ≡ old.kept
    pub limbo : old.limbo ≡ s ∷ new.limbo
    pub seat : new.seat ≡ old.seat

  -- the next of the queue was
  pub record DrawsNext (old new : EvictorView K V) (s : SpareView K V) : Type 0 where
    pub works : Works old new
    pub kept : new.kept ≡ old.kept
    pub limbo : new.limbo ≡ old.limbo
    pub seat : TakesNext old.seat s new.seat

  -- ---- a collecting

  -- there is room for no more
  abbrev pub IsFull : EvictorView K V → Type 0
  IsFull e = e.room ≤ length e.kept

  -- all hand-overs that the seat knows of were taken
  abbrev pub IsDrained : SeatView (SpareView K V) → Type 0
  IsDrained v = length v.handed ≤ v.taken

  -- these spares were dealt with one after another: some are kept, in order, and each other one was tried and reclaimed. The flags tell whether the device failed before the first of them,
  -- and by the last of them
  abbrev pub Sifts : List (Event K V) → Bool → List (SpareView K V) → List (SpareView K V) → Bool → Type 0
  Sifts log before [] kept after = (kept ≡ []) × (after ≡ before)
  Sifts log before (s ∷ ss) kept after = (IsAsked log before s × IsReclaimed s × Sifts log before ss kept after)
      ⊎ ((rest : List (SpareView K V)) × (now : Bool) × (kept ≡ s ∷ rest) × IsKept log before s now × Sifts log now ss rest after)

  -- these were taken one after another
  abbrev pub TakesAll : SeatView (SpareView K V) → List (SpareView K V) → SeatView (SpareView K V) → Type 0
  TakesAll v [] w = w ≡ v
  TakesAll v (x ∷ xs) w = (u : SeatView (SpareView K V)) × TakesNext v x u × TakesAll u xs w

  -- so many of these spares are not kept
  abbrev pub AreGone : ℕ → List (SpareView K V) → List (SpareView K V) → Type 0
  AreGone gone ss kept = gone + length kept ≡ length ss

  -- if the device failed, the first of these goes behind the others, so that each comes first in its turn
  abbrev pub IsTurned : Bool → List (SpareView K V) → List (SpareView K V) → Type 0
  IsTurned false kept new = new ≡ kept
  IsTurned true [] new = new ≡ []
  IsTurned true (s ∷ rest) new = new ≡ rest ++ s ∷ []

  -- this was done to the kept spares, and no more
  pub record PutsBehind (old new : EvictorView K V) (failed : Bool) : Type 0 where
    pub works : Works old new
    pub kept : IsTurned failed old.kept new.kept
    pub limbo : new.limbo ≡ old.limbo
    pub seat : new.seat ≡ old.seat

  -- each kept spare was dealt with, from the first on
  pub record Retries (old new : EvictorView K V) (reclaimed : ℕ) (failed : Bool) : Type 0 where
    pub works : Works old new
    pub sifted : Sifts new.pass.front false old.kept new.kept failed
    pub count : AreGone reclaimed old.kept new.kept
    pub few : reclaimed < 2 ^ 64
    pub limbo : new.limbo ≡ old.limbo
    pub seat : new.seat ≡ old.seat

  -- these of its own limbo and these of the queue were dealt with, behind those that are kept
  pub record Tried (old new : EvictorView K V) (went taken : List (SpareView K V)) (before : Bool) (reclaimed : ℕ) (after : Bool) : Type 0 where
    pub works : Works old new
    pub added : List (SpareView K V)
    pub kept : new.kept ≡ old.kept ++ added
    pub sifted : Sifts new.pass.front before (went ++ taken) added after
    pub gone : ℕ
    pub count : AreGone gone (went ++ taken) added
    pub tells : reclaimed ≡ shown gone
    pub limbo : old.limbo ≡ went ++ new.limbo
    pub seat : TakesAll old.seat taken new.seat

  -- a collecting loses no spare. It deals with each that it kept, then with these of its limbo, then with these of the queue: each was tried, and was reclaimed or stays, in order.
  -- After the device failed, exactly those with an object there are not tried. They stay too. If it failed, the first of those that stay goes behind the others at the end.
  -- The collecting ends when there is room to keep no more, or when nothing is left. A failure of the device does not end it
  pub record Collects (old new : EvictorView K V) (gone : ℕ) (failed : Bool) : Type 0 where
    pub works : Works old new
    pub went : List (SpareView K V)
    pub taken : List (SpareView K V)
    pub stay : List (SpareView K V)
    pub limbo : old.limbo ≡ went ++ new.limbo
    pub seat : TakesAll old.seat taken new.seat
    pub sifted : Sifts new.pass.front false (old.kept ++ (went ++ taken)) stay failed
    pub kept : IsTurned failed stay new.kept
    pub count : AreGone gone (old.kept ++ (went ++ taken)) new.kept
    pub stopped : IsFull new ⊎ ((new.limbo ≡ []) × IsDrained new.seat)

  -- the same, and the answer tells how many were reclaimed, how many are kept, and whether the device failed
  pub record Collecting (old new : EvictorView K V) (answer : Collected) : Type 0 where
    pub gone : ℕ
    pub collects : Collects old new gone answer.failed
    pub reclaimed : answer.reclaimed ≡ shown gone
    pub kept : answer.kept ≡ length new.kept

  -- ---- a turn

  -- the hand walked to its victim, by second chance on what the frames answered, of which nothing is said
  pub record Picks (old new : EvictorView K V) (victim : Option ℕ) : Type 0 where
    pub goes : Goes old.pass new.pass
    pub asked : ℕ
    pub walked : IsWalked (λ f b. Unit {0}) (λ f b. Unit {0}) old.clock.marks old.clock.hand asked new.clock.marks new.clock.hand victim
    pub kept : new.kept ≡ old.kept
    pub limbo : new.limbo ≡ old.limbo
    pub seat : new.seat ≡ old.seat
    pub room : new.room ≡ old.room

  -- its pass went on and made no call, and nothing grew
  pub record Turns (old new : EvictorView K V) : Type 0 where
    pub goes : Goes old.pass new.pass
    pub count : length new.clock.marks ≡ length old.clock.marks
    pub room : new.room ≡ old.room

module _ {K V : Type 0} (ek : K → List ℕ) (ev : V → List ℕ) (l : Limits) (format : Format) where
  -- this frame was swapped out, or held nothing that its bucket's word names, or the table refused, for the reason that a swap-out has
  pub record GivesUp (old new : EvictorView K V) (frame : ℕ) (result : Result Bool Refusal) : Type 0 where
    pub works : Works old new
    pub limbo : AtMostOneMore old.limbo new.limbo
    pub kept : new.kept ≡ old.kept
    pub seat : new.seat ≡ old.seat
    pub swapped : IfOk result (λ done. IsSwapped ek l format frame old.pass old.limbo new.pass new.limbo done)
    pub given_up : IfErr result (λ e. (b : ℕ) × SwapLeavesSpares (IsOfDevice b) new.pass.front old.limbo new.limbo e)
    pub refused : IfErr result (λ e. (b : ℕ) × IsRefused ek ev l b old.pass new.pass e)
    pub full : IfErr result (λ e. IsLimboFull e (length old.limbo))
    pub only : IfErr result (λ e. OfSwapOut e)
    pub answered : IfErr result (λ e. WasRefused frame e)

  -- a caller had the hand's victim swapped out, if there is one. Nothing is said of what the frames answered the hand
  pub record GivesOneUp {J : Type 0} (old new : Caller K V J) (clock moved : ClockView) (result : Result Bool Refusal) : Type 0 where
    pub picked : PassView K V
    pub goes : Goes old.pass picked
    pub asked : ℕ
    pub victim : Option ℕ
    pub walked : IsWalked (λ f b. Unit {0}) (λ f b. Unit {0}) clock.marks clock.hand asked moved.marks moved.hand victim
    pub none : IfNone victim ((result ≡ Ok false) × (new.pass ≡ picked) × (new.limbo ≡ old.limbo))
    pub limbo : AtMostOneMore old.limbo new.limbo
    pub swapped : IfSome victim (λ frame. IfOk result (λ done. IsSwapped ek l format frame picked old.limbo new.pass new.limbo done))
    pub given_up : IfErr result (λ e. (b : ℕ) × SwapLeavesSpares (IsOfDevice b) new.pass.front old.limbo new.limbo e)
    pub refused : IfErr result (λ e. (b : ℕ) × IsRefused ek ev l b picked new.pass e)
    pub full : IfErr result (λ e. IsLimboFull e (length old.limbo))
    pub only : IfErr result (λ e. OfSwapOut e)
    pub answered : IfErr result (λ e. IfSome victim (λ frame. WasRefused frame e))

  -- the victim was given up, if there is one
  abbrev pub GivesUpVictim : EvictorView K V → EvictorView K V → Option ℕ → Bool → Type 0
  GivesUpVictim old new None evicted = (new ≡ old) × (evicted ≡ false)
  GivesUpVictim old new (Some v) evicted = GivesUp old new v (Ok evicted)

  -- a turn: a collecting, a walk of the hand, its victim given up, and another collecting
  pub record IsTurn (old new : EvictorView K V) (answer : Turn) : Type 0 where
    pub collected : EvictorView K V
    pub picked : EvictorView K V
    pub given_up : EvictorView K V
    pub victim : Option ℕ
    pub first : ℕ
    pub second : ℕ
    pub first_failed : Bool
    pub second_failed : Bool
    pub collects : Collects old collected first first_failed
    pub picks : Picks collected picked victim
    pub gives_up : GivesUpVictim picked given_up victim answer.evicted
    pub collects_again : Collects given_up new second second_failed
    pub reclaimed : answer.reclaimed ≡ shown (first + second)
    pub kept : answer.kept ≡ length new.kept

  -- a turn that ends with the table's refusal of its victim's swap-out
  pub record IsTurnRefused (old new : EvictorView K V) (refusal : Refusal) : Type 0 where
    pub collected : EvictorView K V
    pub picked : EvictorView K V
    pub victim : ℕ
    pub first : ℕ
    pub failed : Bool
    pub collects : Collects old collected first failed
    pub picks : Picks collected picked (Some victim)
    pub gives_up : GivesUp picked new victim (Err refusal)
