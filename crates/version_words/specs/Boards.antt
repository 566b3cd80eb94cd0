-- A board beside a log: a cell for each key that the log opened, at the number that the log adds up to at this key. Whoever holds
-- the tally of a key knows that number at each step, and is alone to change it.
use Rattle.std.specs.Prelude.{ℕ, zero, suc, ◌+◌, ◌<◌, ◌≡◌, List, [], ◌∷◌, Bool, true, false, slice_index_or}
use base.Stored.{Coded, coded×, coded_ℕ, coded_via}
use base.Share.{quarter}
use base.Fml.{Fml, ftrue}
use Rattle.logbook.specs.Pages.{Cell}
use Rattle.logbook.specs.Kept.{part, roster}

-- a row of cells at home, with the values f k, f (k + 1), ..
abbrev pub made : (ℕ → ℕ) → ℕ → ℕ → List Cell
made f k zero = []
made f k (suc n) = (f k, true) ∷ made f (suc k) n

module _ {E : Type 0} where
  -- what the log adds up to at the key k, where the entry e adds `adds e k`
  abbrev pub total : (E → ℕ → ℕ) → List E → ℕ → ℕ
  total adds [] k = 0
  total adds (e ∷ log) k = adds e k + total adds log k

  -- how many keys the log opened
  abbrev pub opened : (E → ℕ) → List E → ℕ
  opened opens [] = 0
  opened opens (e ∷ log) = opens e + opened opens log

  abbrev pub cells_of : (E → ℕ → ℕ) → (E → ℕ) → List E → List Cell
  cells_of adds opens log = made (total adds log) 0 (opened opens log)

  abbrev pub board : (E → ℕ → ℕ) → (E → ℕ) → ℕ → List E → Fml
  board adds opens γ log = roster γ 0 (cells_of adds opens log)

-- what someone holds of a board: nothing, or the tally of a key at its count
pub record Slot : Type 0 where
  pub held : ℕ
  pub key : ℕ
  pub count : ℕ

abbrev pub slot : ℕ → ℕ → ℕ → Slot
slot h k n = record { held = h; key = k; count = n }

abbrev pub no_slot : Slot
no_slot = slot 0 0 0

abbrev pub slot_coded : Coded Slot
slot_coded = coded_via (coded× coded_ℕ (coded× coded_ℕ coded_ℕ)) (λ (s : Slot). (s.held, (s.key, s.count))) (λ x y e i. slot (e i).0 (e i).1.0 (e i).1.1)

abbrev pub tally : ℕ → ℕ → ℕ → Fml
tally γ k n = part γ k quarter n

abbrev pub held_owns : ℕ → ℕ → ℕ → ℕ → Fml
held_owns γ zero k n = ftrue
held_owns γ (suc h) k n = tally γ k n

abbrev pub slot_owns : ℕ → Slot → Fml
slot_owns γ s = held_owns γ s.held s.key s.count

-- what an entry does to a board, as far as the slot of who asks for it goes
pub data Effect : Type 0 where
  ignores : Effect
  raises : Effect
  opens_at : ℕ → Effect

-- the slot after the step, where the entry was added or was not
abbrev pub after : Effect → Bool → Slot → Slot
after f false s = s
after ignores true s = s
after raises true s = slot s.held s.key (s.count + 1)
after (opens_at q) true s = slot 1 q 0

module _ {E : Type 0} (adds : E → ℕ → ℕ) (opens : E → ℕ) where
  -- the entry does that to the board of the log
  abbrev pub Has : Effect → E → Slot → List E → Type 0
  Has ignores e s log = (opens e ≡ 0) × ((j : ℕ) → adds e j ≡ 0)
  Has raises e s log = (opens e ≡ 0) × ((j : ℕ) → ¬ (j ≡ s.key) → adds e j ≡ 0) × (adds e s.key ≡ 1) × (0 < s.held)
  Has (opens_at q) e s log = (opens e ≡ 1) × ((j : ℕ) → adds e j ≡ 0) × (total adds log (opened opens log) ≡ 0) × (q ≡ opened opens log)

  -- a slot that is held tells the log's count
  abbrev pub Told : List E → Slot → Type 0
  Told log s = 0 < s.held → (s.key < opened opens log) × (s.count ≡ total adds log s.key)

abbrev pub hit : Bool → ℕ
hit true = 1
hit false = 0

-- the ghost name of the board i
abbrev pub board_at : List ℕ → ℕ → ℕ
board_at names i = slice_index_or names i 0

-- a tally that is held lies on the board γ
abbrev pub LiesAt : ℕ → ℕ → Slot → Type 0
LiesAt γ b s = 0 < s.held → b ≡ γ
