-- The list of all hand-overs and the count of takes, and what a seat knows of them.
use Rattle.std.specs.Prelude.{ℕ, ◌≡◌, ◌+◌, ◌≤◌, Bool, true, false, List, [], ◌∷◌, ◌++◌, length, Some, slice_get}
use mathlib.Core.List.{IsPrefix}
use mathlib.Core.Option.{some}
use lib.ListN.{get_elem?}
use Rattle.swapper.specs.declared.rule.SeatView.{SeatView}

module _ {T : Type 0} where
  abbrev pub seat_view : List T → ℕ → Bool → Bool → SeatView T
  seat_view handed taken alone takes = record { handed = handed; taken = taken; alone = alone; takes = takes }

  -- the seat has seen a beginning of the hand-overs and as many takes at most. A seat that is alone has seen all, and the taker all takes
  pub record Knows (all : List T) (n : ℕ) (seats : ℕ) (taker : ℕ) (port : ℕ) (v : SeatView T) : Type 0 where
    pub begins : IsPrefix v.handed all
    pub fewer : v.taken ≤ n
    pub whole : v.alone ≡ true → (seats ≡ 1) × (v.handed ≡ all) × (v.taken ≡ n)
    pub counts : v.takes ≡ true → (port ≡ taker) × (v.taken ≡ n)

  -- what was handed over is what was taken and then what the queue holds
  pub record IsInOrder (items : List T) (views : List (SeatView T)) : Type 0 where
    pub gone : List T
    pub taker : ℕ
    pub known : (port : ℕ) (v : SeatView T) → get_elem? views port ≡ some v → Knows (gone ++ items) (length gone) (length views) taker port v

  -- x was handed over last, after all that the seat had seen
  pub record HandsOver (v : SeatView T) (x : T) (w : SeatView T) : Type 0 where
    pub before : List T
    pub begins : IsPrefix v.handed before
    pub last : w.handed ≡ before ++ x ∷ []
    pub taken : v.taken ≤ w.taken
    pub held : w.taken ≤ length before
    pub alone : w.alone ≡ v.alone
    pub takes : w.takes ≡ v.takes
    pub counts : v.takes ≡ true → w.taken ≡ v.taken
    pub whole : v.alone ≡ true → (before ≡ v.handed) × (w.taken ≡ v.taken)

  -- x stands at the count of takes, which rises by one
  pub record TakesNext (v : SeatView T) (x : T) (w : SeatView T) : Type 0 where
    pub count : ℕ
    pub later : v.taken ≤ count
    pub raised : w.taken ≡ count + 1
    pub begins : IsPrefix v.handed w.handed
    pub item : slice_get w.handed count ≡ Some x
    pub alone : w.alone ≡ v.alone
    pub takes : w.takes ≡ v.takes
    pub counts : v.takes ≡ true → count ≡ v.taken
    pub whole : v.alone ≡ true → (w.handed ≡ v.handed) × (count ≡ v.taken)

  -- the hand-overs at one moment: those taken, and the items that the queue then holds. They begin with all that the seat had seen
  pub record Stands (v : SeatView T) (items : List T) : Type 0 where
    pub gone : List T
    pub begins : IsPrefix v.handed (gone ++ items)
    pub fewer : v.taken ≤ length gone
    pub counts : v.takes ≡ true → v.taken ≡ length gone
    pub whole : v.alone ≡ true → (v.handed ≡ gone ++ items) × (v.taken ≡ length gone)

  -- it has seen nothing, and may not take
  abbrev pub IsNew : SeatView T → Type 0
  IsNew v = v ≡ seat_view [] 0 false false

  -- these were handed over one after another
  abbrev pub HandsAll : SeatView T → List T → SeatView T → Type 0
  HandsAll v [] w = w ≡ v
  HandsAll v (x ∷ xs) w = (u : SeatView T) × HandsOver v x u × HandsAll u xs w
