-- Where the spares of a session go.
use Rattle.std.proofs.Common.{◌≡◌, ℕ, List, [], ◌∷◌, Bool, true, false, Result, Ok, Err, sym, subst, take, drop, arith, inl, inr, ◌⊎◌}
use Rattle.std.specs.List.{Contains}
use Rattle.std.proofs.lemmas.List.{take-append-drop}
use Rattle.std.proofs.lemmas.List.Elements.{Contains-append_left, Contains-append_cases, Contains-push, Contains-push_cases}
use mathlib.Core.List.{IsPrefix}
use Rattle.hash_table.specs.Calls.{AtMostOneMore}
use Rattle.hash_table.specs.Reclaims.{IsReclaimed}
use Rattle.hash_table.specs.declared.refusal.Refusal.{Refusal}
use Rattle.swapper.specs.Rooms.{IsRecycled, LeavesRoom, MayLeaveRoom}
use Rattle.swapper.specs.Seats.{HandsOver, HandsAll}
use Rattle.swapper.specs.declared.rule.SeatView.{SeatView}
use Rattle.far_map.specs.Views.{Spare}
use Rattle.far_map.specs.Spares.{LosesNone}

abbrev Seat : Type 0 → Type 0
Seat V = SeatView (Spare V)

either : {A B C : Type 0} → A ⊎ B → (A → C) → (B → C) → C
either (inl a) f g = f a
either (inr b) f g = g b

module _ {V : Type 0} where
  abbrev Fate : List (Spare V) → Seat V → Spare V → Type 0
  Fate after left s = Contains after s ⊎ (Contains left.handed s ⊎ IsReclaimed s)

  -- ---- one step after another

  pub loses_trans : (before mid after : List (Spare V)) (seat middle left : Seat V) → LosesNone before seat mid middle → LosesNone mid middle after left → LosesNone before seat after left
  loses_trans before mid after seat middle left g h = record {
    spares = λ s there. on s (g.spares s there);
    handed = λ s there. h.handed s (g.handed s there);
  }
    where
      on : (s : Spare V) → Fate mid middle s → Fate after left s
      on s (inl waits) = h.spares s waits
      on s (inr (inl handed)) = inr (inl (h.handed s handed))
      on s (inr (inr gone)) = inr (inr gone)

  pub loses_self : (before : List (Spare V)) (seat : Seat V) → LosesNone before seat before seat
  loses_self before seat = record { spares = λ s there. inl there; handed = λ s there. there }

  -- ---- the caller's spares alone

  -- spares came, and none went
  pub came : (before after : List (Spare V)) (seat : Seat V) → IsPrefix before after → LosesNone before seat after seat
  came before after seat p = record {
    spares = λ s there. inl (subst (λ (xs : List (Spare V)). Contains xs s) p.1 (Contains-append_left before p.0 s there));
    handed = λ s there. there;
  }

  pub stay : (before after : List (Spare V)) (seat : Seat V) → after ≡ before → LosesNone before seat after seat
  stay before after seat is = record { spares = λ s there. inl (subst (λ (xs : List (Spare V)). Contains xs s) (sym is) there); handed = λ s there. there }

  pub one_came : (before after : List (Spare V)) (seat : Seat V) → AtMostOneMore before after → LosesNone before seat after seat
  one_came before after seat (inl is) = stay before after seat is
  one_came before after seat (inr more) = came before after seat (more.0 ∷ [], sym more.1)

  only : (x s : Spare V) → Contains (x ∷ []) s → x ≡ s
  only x s h = pick (Contains-push_cases [] x s h)
    where
      pick : Contains [] s ⊎ (x ≡ s) → x ≡ s
      pick (inl none) = absurd (omega (arith, none.1))
      pick (inr is) = is

  pub recycled : (before after : List (Spare V)) (seat : Seat V) → IsRecycled before after → LosesNone before seat after seat
  recycled [] after seat h = stay [] after seat h
  recycled (x ∷ rest) after seat h = tried h.1
    where
      gone : (after ≡ rest) × IsReclaimed x → (s : Spare V) → Contains (x ∷ []) s ⊎ Contains rest s → Fate after seat s
      gone g s (inl first) = inr (inr (subst (λ (y : Spare V). IsReclaimed y) (only x s first) g.1))
      gone g s (inr other) = inl (subst (λ (xs : List (Spare V)). Contains xs s) (sym g.0) other)

      tried : ((after ≡ rest) × IsReclaimed x) ⊎ (after ≡ x ∷ rest) → LosesNone (x ∷ rest) seat after seat
      tried (inl g) = record { spares = λ s there. gone g s (Contains-append_cases (x ∷ []) rest s there); handed = λ s there. there }
      tried (inr is) = stay (x ∷ rest) after seat is

  pub room_left : (before after : List (Spare V)) (seat : Seat V) (made : Result Bool Refusal) → LeavesRoom before after made → LosesNone before seat after seat
  room_left before after seat (Ok true) h = loses_trans before h.0 after seat seat seat (one_came before h.0 seat h.1) (recycled h.0 after seat h.2)
  room_left before after seat (Ok false) h = stay before after seat h
  room_left before after seat (Err e) h = one_came before after seat h

  pub ready_left : (before after : List (Spare V)) (seat : Seat V) → MayLeaveRoom before after → LosesNone before seat after seat
  ready_left before after seat (inl is) = stay before after seat is
  ready_left before after seat (inr made) = room_left before after seat made.0 made.1

  -- ---- hand-overs

  keeps_one : (v w : Seat V) (x s : Spare V) → HandsOver v x w → Contains v.handed s → Contains w.handed s
  keeps_one v w x s h there =
      let begun : Contains h.before s = subst (λ (xs : List (Spare V)). Contains xs s) h.begins.1 (Contains-append_left v.handed h.begins.0 s there) in
      subst (λ (xs : List (Spare V)). Contains xs s) (sym h.last) (Contains-append_left h.before (x ∷ []) s begun)

  keeps_all : (v w : Seat V) (xs : List (Spare V)) (s : Spare V) → HandsAll v xs w → Contains v.handed s → Contains w.handed s
  keeps_all v w [] s h there = subst (λ (u : Seat V). Contains u.handed s) (sym h) there
  keeps_all v w (x ∷ xs) s h there = keeps_all h.0 w xs s h.2 (keeps_one v h.0 x s h.1 there)

  hands_last : (v w : Seat V) (x : Spare V) → HandsOver v x w → Contains w.handed x
  hands_last v w x h = subst (λ (ys : List (Spare V)). Contains ys x) (sym h.last) (Contains-push h.before x)

  hands_each : (v w : Seat V) (xs : List (Spare V)) (s : Spare V) → HandsAll v xs w → Contains xs s → Contains w.handed s
  hands_each v w [] s h there = absurd (omega (arith, there.1))
  hands_each v w (x ∷ xs) s h there =
      either (Contains-append_cases (x ∷ []) xs s there)
      (λ first. keeps_all h.0 w xs s h.2 (subst (λ (y : Spare V). Contains h.0.handed y) (only x s first) (hands_last v h.0 x h.1)))
      (λ other. hands_each h.0 w xs s h.2 other)

  -- the oldest went to the queue, and the others wait
  pub handed_on : (went : ℕ) (before after : List (Spare V)) (seat left : Seat V) → after ≡ drop went before → HandsAll seat (take went before) left → LosesNone before seat after left
  handed_on went before after seat left rest hands = record {
    spares = λ s there. part s (Contains-append_cases (take went before) (drop went before) s (subst (λ (xs : List (Spare V)). Contains xs s) (sym (take-append-drop went before)) there));
    handed = λ s there. keeps_all seat left (take went before) s hands there;
  }
    where
      part : (s : Spare V) → Contains (take went before) s ⊎ Contains (drop went before) s → Fate after left s
      part s (inl first) = inr (inl (hands_each seat left (take went before) s hands first))
      part s (inr other) = inl (subst (λ (xs : List (Spare V)). Contains xs s) (sym rest) other)
