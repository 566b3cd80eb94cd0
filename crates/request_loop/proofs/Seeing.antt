-- What is seen of slots.
use Rattle.std.proofs.Common.{◌≡◌, ◌≢◌, ℕ, ◌+◌, ◌<◌, ◌≤◌, Option, Some, None, Result, Ok, Err, List, [], false, inl, inr, refl, sym, ap, ◌∙◌, arith}
use Rattle.std.specs.Prelude.{IfOk, OnOk, OnErr, nat_lt, if◌then◌else◌}
use Rattle.std.specs.Option.{option_map, unwrap_or}
use Rattle.std.specs.declared.cmp.Ordering.{Ordering}
use Rattle.std.specs.declared.cmp.Ordering.TheVariants.{Less, Equal, Greater}
use Rattle.std.specs.Ordering.{MatchOrdering, is_eq, nat_cmp}
use Rattle.std.proofs.lemmas.Cmp.{ranked}
use Rattle.std.specs.BTreeMap.{is_at}
use Rattle.std.proofs.lemmas.Bool.{cond_below, cond_above}
use Rattle.std.proofs.lemmas.Bool.Decides.{leb_tells}
use Rattle.std.proofs.lemmas.Map.Made.{lookup-map_values}
use Rattle.request_loop.specs.declared.slots.Slot.{Slot}
use Rattle.request_loop.specs.declared.slots.Slots.{Slots}
use Rattle.request_loop.specs.declared.slots.State.TheVariants.{Running, Over}
use Rattle.request_loop.specs.Slots.{Seen, Fresh, Runs, Closed, Gone, seen_so, seen, state_of, seen_in, none_seen, slot_at, find_slot, Replaces, OthersSame}

-- what is seen of a number that has no slot
abbrev pub missing : ℕ → ℕ → Seen
missing next c = if nat_lt c next then Gone else Fresh

-- what is seen of the slot that is found, or of none
abbrev pub seen_of : ℕ → ℕ → Option Slot → Seen
seen_of next c found = unwrap_or (option_map seen found) (missing next c)

pub seen_found : (slots : Slots) (c : ℕ) → slot_at slots c ≡ seen_of slots.next c (find_slot slots c)
seen_found slots c = ap (λ o. unwrap_or o (missing slots.next c)) (lookup-map_values seen (is_at (nat_cmp c)) slots.map.entries)

pub is_gone : (next c : ℕ) → c < next → missing next c ≡ Gone
is_gone next c less = sym (cond_below c next Gone Fresh less)

pub is_fresh : (next c : ℕ) → next ≤ c → missing next c ≡ Fresh
is_fresh next c most = sym (cond_above c next Gone Fresh Fresh most refl)

pub none_at : (c : ℕ) → seen_in none_seen c ≡ Fresh
none_at c = is_fresh 0 c (omega arith)

-- a number is found at itself alone
apart : (c d : ℕ) (r : Ordering) → MatchOrdering r (c < d) (c ≡ d) (d < c) → d ≢ c → is_eq r ≡ false
apart c d Less m other = refl
apart c d Equal m other = absurd (other (sym m))
apart c d Greater m other = refl

not_at : (c d : ℕ) → d ≢ c → is_at (nat_cmp c) d ≡ false
not_at c d other = apart c d (nat_cmp c d) (ranked c d (nat_cmp c d) refl) other

-- one number's slot became another
pub found_replaces : (c : ℕ) (old new : Slots) (w : Option Slot) (view : Seen) → new.next ≡ old.next → find_slot new c ≡ w → ((d : ℕ) → is_at (nat_cmp c) d ≡ false → find_slot new d ≡ find_slot old d) → seen_of new.next c w ≡ view → Replaces c view old new
found_replaces c old new w view next here others is = record {
  here = seen_found new c ∙ (ap (seen_of new.next c) here ∙ is);
  others = λ d other. seen_found new d ∙ (ap (seen_of new.next d) (others d (not_at c d other)) ∙ (ap (λ n. seen_of n d (find_slot old d)) next ∙ sym (seen_found old d)));
}

-- the next number is used
missing_next : (c d : ℕ) → d ≢ c → missing (c + 1) d ≡ missing c d
missing_next c d other =
    elim (leb_tells c d) [
      | inl e ↦ is_fresh (c + 1) d (omega (arith, e.1, other)) ∙ sym (is_fresh c d e.1)
      | inr e ↦ is_gone (c + 1) d (omega (arith, e.1)) ∙ sym (is_gone c d e.1)
    ]

seen_next : (c d : ℕ) (found : Option Slot) → d ≢ c → seen_of (c + 1) d found ≡ seen_of c d found
seen_next c d None other = missing_next c d other
seen_next c d (Some s) other = refl

-- the next number has a slot, or none
pub found_next : (c : ℕ) (old new : Slots) (w : Option Slot) (view : Seen) → old.next ≡ c → new.next ≡ c + 1 → find_slot new c ≡ w → ((d : ℕ) → is_at (nat_cmp c) d ≡ false → find_slot new d ≡ find_slot old d) → seen_of (c + 1) c w ≡ view → Replaces c view old new
found_next c old new w view was next here others is = record {
  here = seen_found new c ∙ (ap (λ n. seen_of n c (find_slot new c)) next ∙ (ap (seen_of (c + 1) c) here ∙ is));
  others = λ d other. seen_found new d ∙ (ap (λ n. seen_of n d (find_slot new d)) next ∙ (ap (seen_of (c + 1) d) (others d (not_at c d other)) ∙ (seen_next c d (find_slot old d) other ∙ (ap (λ n. seen_of n d (find_slot old d)) (sym was) ∙ sym (seen_found old d)))));
}

-- a number that has no slot
pub fresh_at : (slots : Slots) (c : ℕ) → find_slot slots c ≡ None → slots.next ≤ c → slot_at slots c ≡ Fresh
fresh_at slots c none above = seen_found slots c ∙ (ap (seen_of slots.next c) none ∙ is_fresh slots.next c above)

pub gone_at : (slots : Slots) (c : ℕ) → find_slot slots c ≡ None → c < slots.next → slot_at slots c ≡ Gone
gone_at slots c none below = seen_found slots c ∙ (ap (seen_of slots.next c) none ∙ is_gone slots.next c below)

abbrev pub held_in : Seen → List ℕ
held_in Fresh = []
held_in (Runs held wanted) = held
held_in Closed = []
held_in Gone = []

abbrev pub wanted_in : Seen → ℕ
wanted_in Fresh = 0
wanted_in (Runs held wanted) = wanted
wanted_in Closed = 0
wanted_in Gone = 0

-- what is seen by its state
pub seen_runs : (s : Seen) → state_of s ≡ Some Running → s ≡ Runs (held_in s) (wanted_in s)
seen_runs Fresh is = (let none : ⊥ = cc in absurd none)
seen_runs (Runs held wanted) is = refl
seen_runs Closed is = (let none : ⊥ = cc in absurd none)
seen_runs Gone is = (let none : ⊥ = cc in absurd none)

pub seen_closed : (s : Seen) → state_of s ≡ Some Over → s ≡ Closed
seen_closed Fresh is = (let none : ⊥ = cc in absurd none)
seen_closed (Runs held wanted) is = (let none : ⊥ = cc in absurd none)
seen_closed Closed is = refl
seen_closed Gone is = (let none : ⊥ = cc in absurd none)

pub slot_state : (s : Slot) → state_of (seen s) ≡ Some s.state
slot_state s = elim s.state as (λ t. state_of (seen_so t s.held.bytes.items s.held.wanted) ≡ Some t) [ Running ↦ refl | Over ↦ refl ]

pub slot_runs : (s : Slot) → state_of (seen s) ≡ Some Running → seen s ≡ Runs s.held.bytes.items s.held.wanted
slot_runs s is = (elim s.state as (λ t. state_of (seen_so t s.held.bytes.items s.held.wanted) ≡ Some Running → seen_so t s.held.bytes.items s.held.wanted ≡ Runs s.held.bytes.items s.held.wanted) [ Running ↦ λ e. refl | Over ↦ λ e. (let none : ⊥ = cc in absurd none) ]) is

pub ok_map : {T E : Type 0} (r : Result T E) (P Q : Type 0) → (P → Q) → OnOk r P → OnOk r Q
ok_map (Ok t) P Q f p = f p
ok_map (Err e) P Q f p = p

pub if_ok_map : {T E : Type 0} (r : Result T E) (P Q : T → Type 0) → ((t : T) → P t → Q t) → IfOk r P → IfOk r Q
if_ok_map (Ok t) P Q f p = f t p
if_ok_map (Err e) P Q f p = p

pub if_ok_both : {T E : Type 0} (r : Result T E) (P Q : T → Type 0) (S : Type 0) → ((t : T) → P t → S → Q t) → IfOk r P → OnOk r S → IfOk r Q
if_ok_both (Ok t) P Q S f p s = f t p s
if_ok_both (Err e) P Q S f p s = p

-- what holds at both
pub either_way : {T E : Type 0} (r : Result T E) (P Q R : Type 0) → (P → R) → (Q → R) → OnOk r P → OnErr r Q → R
either_way (Ok t) P Q R f g p q = f p
either_way (Err e) P Q R f g p q = g q

pub placed : (c : ℕ) (v w : Seen) (a b d : Slots) → OthersSame c a b → Replaces c v b d → v ≡ w → Replaces c w a d
placed c v w a b d others r is = record {
  here = r.here ∙ is;
  others = λ e other. r.others e other ∙ others e other;
}
