-- What a worker holds of each number.
use Rattle.std.specs.Prelude.{◌≡◌, ◌≢◌, ℕ, Bool, true, false, nat_lt, if◌then◌else◌, List, [], ◌++◌, map, Option, Some, None}
use Rattle.std.specs.Option.{unwrap_or}
use Rattle.std.specs.Ordering.{nat_cmp}
use Rattle.std.specs.Map.{lookup}
use Rattle.std.specs.BTreeMap.{is_at}
use Rattle.resp.specs.declared.limits.Limits.{Limits}
use Rattle.request_loop.specs.declared.slots.Held.{Held}
use Rattle.request_loop.specs.declared.slots.Slot.{Slot}
use Rattle.request_loop.specs.declared.slots.Slots.{Slots}
use Rattle.request_loop.specs.declared.slots.State.{State}
use Rattle.request_loop.specs.declared.slots.State.TheVariants.{Running, Over}
use Rattle.request_loop.specs.Marks.{Mark, said, is_stopped, EndsOnce}
use Rattle.request_loop.specs.Calls.{Exchange, asked, replied, AreTaken, AllGoOn}
use Rattle.request_loop.specs.Workers.{IsOpen, IsOver, IsSettledBy}

-- how a connection stands: it has not begun; or it goes on, with what is held of it and how much is waited for; or the worker has
-- closed it, and the client not yet; or it is gone
pub data Seen : Type 0 where
  Fresh : Seen
  Runs : (held : List ℕ) (wanted : ℕ) → Seen
  Closed : Seen
  Gone : Seen

abbrev pub seen_so : State → List ℕ → ℕ → Seen
seen_so Running held wanted = Runs held wanted
seen_so Over held wanted = Closed

abbrev pub seen : Slot → Seen
seen s = seen_so s.state s.held.bytes.items s.held.wanted

-- what is seen of a connection behind a turn: what is held of it, or that the worker has closed it
abbrev pub seen_left : Option Held → Seen
seen_left (Some held) = Runs held.bytes.items held.wanted
seen_left None = Closed

-- what is seen of a connection behind its open: it goes on, or there was no memory for it
abbrev pub seen_opened : Bool → Seen
seen_opened true = Runs [] 1
seen_opened false = Gone

abbrev pub state_of : Seen → Option State
state_of Fresh = None
state_of (Runs held wanted) = Some Running
state_of Closed = Some Over
state_of Gone = None

-- what a worker holds: of each connection that is not gone, by its number, and the number that is used next
pub record Views : Type 0 where
  pub entries : List (ℕ × Seen)
  pub next : ℕ

-- nothing, where no number was used
abbrev pub none_seen : Views
none_seen = record { entries = []; next = 0 }

abbrev pub views_of : Slots → Views
views_of slots = record { entries = map (λ e. (e.0, seen e.1)) slots.map.entries; next = slots.next }

-- numbers are used in order: one without a slot is gone if it was used
abbrev pub seen_in : Views → ℕ → Seen
seen_in views c = unwrap_or (lookup (is_at (nat_cmp c)) views.entries) (if nat_lt c views.next then Gone else Fresh)

abbrev pub find_slot : Slots → ℕ → Option Slot
find_slot slots c = lookup (is_at (nat_cmp c)) slots.map.entries

abbrev pub slot_at : Slots → ℕ → Seen
slot_at slots c = seen_in (views_of slots) c

-- the slots are the same but for this one
pub record Replaces (c : ℕ) (view : Seen) (old new : Slots) : Type 0 where
  pub here : slot_at new c ≡ view
  pub others : (d : ℕ) → d ≢ c → slot_at new d ≡ slot_at old d

abbrev pub OthersSame : ℕ → Slots → Slots → Type 0
OthersSame c old new = (d : ℕ) → d ≢ c → slot_at new d ≡ slot_at old d

-- how a connection stands, of which this is seen
abbrev pub StandsBy : Limits → Bool → Bool → Bool → List ℕ → List ℕ → List Exchange → Seen → Type 0
StandsBy limits came_stopped sent_stopped steps_stopped came sent es Fresh =
    (came_stopped ≡ false) × (sent_stopped ≡ false) × (steps_stopped ≡ false) × (came ≡ []) × (sent ≡ []) × (es ≡ [])
StandsBy limits came_stopped sent_stopped steps_stopped came sent es (Runs held wanted) =
    (came_stopped ≡ false) × (sent_stopped ≡ false) × (steps_stopped ≡ false) × IsOpen limits came sent es held wanted
StandsBy limits came_stopped sent_stopped steps_stopped came sent es Closed = (sent_stopped ≡ true) × (steps_stopped ≡ true) × IsOver limits came sent es
StandsBy limits came_stopped sent_stopped steps_stopped came sent es Gone = IsSettledBy limits came_stopped sent_stopped came sent es × (sent_stopped ≡ true) × (steps_stopped ≡ true)

abbrev pub StandsAt : Limits → ℕ → List (Mark ℕ) → List (Mark ℕ) → List (Mark Exchange) → Seen → Type 0
StandsAt limits c came sent steps s = StandsBy limits (is_stopped c came) (is_stopped c sent) (is_stopped c steps) (said c came) (said c sent) (said c steps) s

pub record AllStand (limits : Limits) (slots : Slots) (came sent : List (Mark ℕ)) (steps : List (Mark Exchange)) : Type 0 where
  pub now : (d : ℕ) → StandsAt limits d came sent steps (slot_at slots d)
  pub once_sent : (d : ℕ) → EndsOnce d sent
  pub once_steps : (d : ℕ) → EndsOnce d steps

-- In a turn of connection c: all others stand, and of this one P is told of what came, what was or is to be sent, and the
-- requests that were taken.
pub record InTurn (P : List ℕ → List ℕ → List Exchange → Type 0) (limits : Limits) (c : ℕ) (slots : Slots) (out : List ℕ) (came sent : List (Mark ℕ)) (steps : List (Mark Exchange)) : Type 0 where
  pub others : (d : ℕ) → d ≢ c → StandsAt limits d came sent steps (slot_at slots d)
  pub came_on : is_stopped c came ≡ false
  pub sent_on : is_stopped c sent ≡ false
  pub steps_on : is_stopped c steps ≡ false
  pub once_sent : (d : ℕ) → EndsOnce d sent
  pub once_steps : (d : ℕ) → EndsOnce d steps
  pub mine : P (said c came) (said c sent ++ out) (said c steps)

-- these bytes of the connection are still to be looked at
pub record IsAnswered (limits : Limits) (rest : List ℕ) (came sent : List ℕ) (es : List Exchange) : Type 0 where
  pub is : came ≡ asked es ++ rest
  pub each : AreTaken limits es
  pub go_on : AllGoOn es
  pub sent_is : sent ≡ replied es
