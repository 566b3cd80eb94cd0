-- A walk of the hand.
use Rattle.std.proofs.Common.{◌≡◌, ◌≢◌, ℕ, zero, suc, ◌+◌, ◌-◌, ◌<◌, ◌≤◌, ◌==◌, ltb, Bool, true, false, true≢false, not, ◌&&◌, ◌||◌, cond, List, length, set, Option, Some, None, refl, ap, sym, ◌∙◌, subst, inl, inr, ◌⊎◌, ⊎_elim, arith, lt-ltb, le-ltb, add-one}
use Rattle.std.proofs.Math.ListN.{length-set}
use Rattle.std.proofs.lemmas.List.{get_or-set_same, get_or-set_other, same_lists, get_or_default}
use Rattle.std.proofs.lemmas.Bool.Decides.{eqb_tells}
use Rattle.swapper.specs.Chances.{at, next, flag, first, unheld, unmarked, victim, hand_after, spent, marked, chosen, IsSwept}
use Rattle.swapper.specs.Meetings.{Finds, IsMet, Asks, IsWalked, or_this}
use Rattle.swapper.specs.declared.flags.Met.{Met}
use Rattle.swapper.specs.declared.flags.Met.TheVariants as met

-- ---- steps

lt_or_le : (a b : ℕ) → (a < b) ⊎ (b ≤ a)
lt_or_le zero zero = inr (omega arith)
lt_or_le zero (suc b) = inl (omega arith)
lt_or_le (suc a) zero = inr (omega arith)
lt_or_le (suc a) (suc b) = ⊎_elim (λ lt. inl (omega (arith, lt))) (λ le. inr (omega (arith, le))) (lt_or_le a b)

At : ℕ → ℕ → ℕ → Type 0
At count hand k = ((hand + k < count) × (at count hand k ≡ hand + k)) ⊎ ((count ≤ hand + k) × (at count hand k ≡ hand + k - count))

at_is : (count hand k : ℕ) → At count hand k
unfolding At
at_is count hand k = ⊎_elim
    (λ lt. inl (lt, ap (λ (b : Bool). cond b (hand + k) (hand + k - count)) (lt-ltb (hand + k) count lt)))
    (λ le. inr (le, ap (λ (b : Bool). cond b (hand + k) (hand + k - count)) (le-ltb (hand + k) count le)))
    (lt_or_le (hand + k) count)

pub at_below : (count hand k : ℕ) → hand < count → k < count → at count hand k < count
unfolding At
at_below count hand k h lt = ⊎_elim (λ a. omega (arith, a.0, a.1)) (λ a. omega (arith, a.0, a.1, h, lt)) (at_is count hand k)

pub at_apart : (count hand j k : ℕ) → hand < count → j < count → k < count → j ≢ k → at count hand j ≢ at count hand k
unfolding At
at_apart count hand j k h lj lk other same = other (⊎_elim
    (λ a. ⊎_elim (λ b. omega (arith, a.0, a.1, b.0, b.1, same, h, lj, lk)) (λ b. omega (arith, a.0, a.1, b.0, b.1, same, h, lj, lk)) (at_is count hand k))
    (λ a. ⊎_elim (λ b. omega (arith, a.0, a.1, b.0, b.1, same, h, lj, lk)) (λ b. omega (arith, a.0, a.1, b.0, b.1, same, h, lj, lk)) (at_is count hand k))
    (at_is count hand j))

pub at_zero : (count hand : ℕ) → hand < count → hand ≡ at count hand 0
unfolding At
at_zero count hand h = ⊎_elim (λ a. omega (arith, a.1)) (λ a. absurd (omega (arith, a.0, h))) (at_is count hand 0)

next_is : (count f : ℕ) → ((f + 1 ≡ count) × (next count f ≡ 0)) ⊎ ((f + 1 ≢ count) × (next count f ≡ f + 1))
next_is count f = ⊎_elim
    (λ e. inl (e.1, ap (λ (b : Bool). cond b 0 (f + 1)) e.0))
    (λ e. inr (e.1, ap (λ (b : Bool). cond b 0 (f + 1)) e.0))
    (eqb_tells (f + 1) count)

pub at_next : (count hand k : ℕ) → hand < count → k < count → next count (at count hand k) ≡ at count hand (k + 1)
unfolding At
at_next count hand k h lt = ⊎_elim
    (λ a. ⊎_elim
    (λ b. ⊎_elim (λ n. absurd (omega (arith, a.0, a.1, b.0, b.1, n.0, h, lt))) (λ n. omega (arith, a.0, a.1, b.0, b.1, n.1, h, lt)) (next_is count (at count hand k)))
    (λ b. ⊎_elim (λ n. omega (arith, a.0, a.1, b.0, b.1, n.1, h, lt)) (λ n. absurd (n.0 (omega (arith, a.0, a.1, b.0, b.1, h, lt)))) (next_is count (at count hand k)))
    (at_is count hand (k + 1)))
    (λ a. ⊎_elim
    (λ b. absurd (omega (arith, a.0, a.1, b.0, b.1, h, lt)))
    (λ b. ⊎_elim (λ n. absurd (omega (arith, a.0, a.1, b.0, b.1, n.0, h, lt))) (λ n. omega (arith, a.0, a.1, b.0, b.1, n.1, h, lt)) (next_is count (at count hand k)))
    (at_is count hand (k + 1)))
    (at_is count hand k)

-- ---- the first

pub first_found : (t : ℕ → Bool) (n s i : ℕ) → s ≤ i → i < s + n → t i ≡ true → ((j : ℕ) → s ≤ j → j < i → t j ≡ false) → first t n s ≡ Some i
first_found t zero s i le lt is none = absurd (omega (arith, le, lt))
first_found t (suc n) s i le lt is none = ⊎_elim
    (λ e. let here : t s ≡ true = subst (λ (x : ℕ). t x ≡ true) (sym e.1) is in ap (λ (b : Bool). cond b (Some s) (first t n (s + 1))) here ∙ ap (λ (x : ℕ). Some x) e.1)
    (λ e.
    let more : s < i = below s i le e.1 in
    ap (λ (b : Bool). cond b (Some s) (first t n (s + 1))) (none s (omega arith) more)
    ∙ first_found t n (s + 1) i (omega (arith, more)) (omega (arith, lt)) is (λ j a b. none j (omega (arith, a)) b))
    (eqb_tells s i)
  where
    below : (s i : ℕ) → s ≤ i → s ≢ i → s < i
    below s i le other = ⊎_elim (λ lt. lt) (λ ge. absurd (other (omega (arith, le, ge)))) (lt_or_le s i)

pub first_none : (t : ℕ → Bool) (n s : ℕ) → ((j : ℕ) → s ≤ j → j < s + n → t j ≡ false) → first t n s ≡ None
first_none t zero s none = refl
first_none t (suc n) s none =
    ap (λ (b : Bool). cond b (Some s) (first t n (s + 1))) (none s (omega arith) (omega arith))
    ∙ first_none t n (s + 1) (λ j a b. none j (omega (arith, a)) (omega (arith, b)))

-- ---- answers by step

abbrev upd : (ℕ → Bool) → ℕ → Bool → ℕ → Bool
upd f k b j = cond (j == k) b (f j)

-- what holds of the answer at k, and of those at the other steps, holds of all
upd_all : (P : ℕ → Bool → Bool → Type 0) (f g : ℕ → Bool) (k : ℕ) (b c : Bool) → P k b c → ((j : ℕ) → j ≢ k → P j (f j) (g j)) → (j : ℕ) → P j (upd f k b j) (upd g k c j)
upd_all P f g k b c here others j = ⊎_elim
    (λ e. subst (λ (z : Bool). P j (cond z b (f j)) (cond z c (g j))) (sym e.0) (subst (λ (x : ℕ). P x b c) (sym e.1) here))
    (λ e. subst (λ (z : Bool). P j (cond z b (f j)) (cond z c (g j))) (sym e.0) (others j e.1))
    (eqb_tells j k)

upd_at : (f : ℕ → Bool) (k : ℕ) (b : Bool) → upd f k b k ≡ b
upd_at f k b = upd_all (λ j x _. j ≡ k → x ≡ b) f f k b b (λ _. refl) (λ j other e. absurd (other e)) k refl

upd_before : (f : ℕ → Bool) (k : ℕ) (b : Bool) (j : ℕ) → j < k → upd f k b j ≡ f j
upd_before f k b j lt = upd_all (λ i x _. i < k → x ≡ f i) f f k b b (λ l. absurd (omega (arith, l))) (λ i other l. refl) j lt

or_false : (b : Bool) → (b || false) ≡ b
or_false true = refl
or_false false = refl

and_true : (b : Bool) → (b && true) ≡ b
and_true true = refl
and_true false = refl

and_false : (b : Bool) → (b && false) ≡ false
and_false true = refl
and_false false = refl

or_true : (b : Bool) → (b || true) ≡ true
or_true true = refl
or_true false = refl

-- what is neither free of the one nor of the other is the one or the other
not_neither : (a b : Bool) → (not a && not b) ≡ false → (a || b) ≡ true
not_neither true b e = refl
not_neither false true e = refl
not_neither false false e = absurd (true≢false e)

-- ---- asking

module _ {S : Type 0} (goes : ℕ → S → S → Type 0) (count hand : ℕ) where
  pub asks_none : (s : S) → Asks goes count hand 0 s s
  asks_none s = refl

  pub asks_more : (k frame : ℕ) (s t u : S) → frame ≡ at count hand k → Asks goes count hand k s t → goes frame t u → Asks goes count hand (k + 1) s u
  asks_more k frame s t u here a g = subst (λ (n : ℕ). Asks goes count hand n s u) (sym (add-one k)) (t, a, subst (λ (f : ℕ). goes f t u) here g)

  pub asks_end : (k n : ℕ) (s t : S) → k ≡ n → Asks goes count hand k s t → Asks goes count hand n s t
  asks_end k n s t e a = subst (λ (m : ℕ). Asks goes count hand m s t) e a

-- what stands still, and adds up, holds of all that was asked
pub asks_all : {S : Type 0} (P : S → S → Type 0) (goes : ℕ → S → S → Type 0) (count hand : ℕ) → ((s : S) → P s s) → ((a b c : S) → P a b → P b c → P a c) → ((f : ℕ) (s t : S) → goes f s t → P s t)
    → (n : ℕ) (s t : S) → Asks goes count hand n s t → P s t
asks_all P goes count hand stays joins step zero s t e = subst (λ (u : _). P s u) (sym e) (stays s)
asks_all P goes count hand stays joins step (suc n) s t (u, a, g) = joins s u t (asks_all P goes count hand stays joins step n s u a) (step (at count hand n) u t g)

module _ (old : List Bool) (hand : ℕ) where
  abbrev step : ℕ → ℕ
  step k = at (length old) hand k

  abbrev is_free : (ℕ → Bool) → (ℕ → Bool) → ℕ → Bool
  is_free held touched j = not (held j) && not (marked held touched old hand j)

  -- the first of the frames passed that isn't held, if there is one
  abbrev pub Spared : (ℕ → Bool) → Option ℕ → ℕ → Type 0
  Spared held None k = (j : ℕ) → j < k → held j ≡ true
  Spared held (Some v) k = (i : ℕ) × (i < k) × (v ≡ step i) × (held i ≡ false) × ((j : ℕ) → j < i → held j ≡ true)

  module _ (may_hold may_touch : ℕ → Bool → Type 0) where
    -- what the first k frames answered
    pub record Walked (marks : List Bool) (frame : ℕ) (spared : Option ℕ) (k : ℕ) : Type 0 where
      pub held : ℕ → Bool
      pub touched : ℕ → Bool
      pub may_hold_all : (j : ℕ) → may_hold (step j) (held j)
      pub may_touch_some : (j : ℕ) → (touched j ≡ false) ⊎ may_touch (step j) (touched j)
      pub may_touch_met : (j : ℕ) → j < k → held j ≡ false → may_touch (step j) (touched j)
      pub unasked : (j : ℕ) → k ≤ j → touched j ≡ false
      pub count_stays : length marks ≡ length old
      pub here : frame ≡ step k
      pub passed : (j : ℕ) → j < k → (not (held j) && not (flag old (step j) || touched j)) ≡ false
      pub gone : (j : ℕ) → j < k → flag marks (step j) ≡ ((flag old (step j) || touched j) && held j)
      pub left : (j : ℕ) → k ≤ j → j < length old → flag marks (step j) ≡ flag old (step j)
      pub spared_is : Spared held spared k

    pub walked_none : (guess : ℕ → Bool) (frame : ℕ) → frame ≡ hand → hand < length old → ((f : ℕ) → may_hold f (guess f)) → Walked old frame None 0
    walked_none guess frame is h guessed = record {
      held = λ j. guess (step j);
      touched = λ j. false;
      may_hold_all = λ j. guessed (step j);
      may_touch_some = λ j. inl refl;
      may_touch_met = λ j lt. absurd (omega (arith, lt));
      unasked = λ j le. refl;
      count_stays = refl;
      here = is ∙ at_zero (length old) hand h;
      passed = λ j lt. absurd (omega (arith, lt));
      gone = λ j lt. absurd (omega (arith, lt));
      left = λ j le lt. refl;
      spared_is = λ j lt. absurd (omega (arith, lt));
    }

    module _ (h : hand < length old) (marks : List Bool) (frame k : ℕ) (spared : Option ℕ) (lt : k < length old) (w : Walked marks frame spared k) where
      -- the frame's mark before it was asked
      mark_at : flag marks frame ≡ flag old (step k)
      mark_at = ap (λ (f : ℕ). flag marks f) w.here ∙ w.left k (omega arith) lt

      walked_more : (new : List Bool) (again : Option ℕ) (b c : Bool) → may_hold frame b → (c ≡ false) ⊎ may_touch frame c → (b ≡ false → may_touch frame c) → length new ≡ length marks
          → (not b && not (flag old (step k) || c)) ≡ false → flag new (step k) ≡ ((flag old (step k) || c) && b)
          → ((j : ℕ) → j ≢ k → j < length old → flag new (step j) ≡ flag marks (step j)) → Spared (upd w.held k b) again (k + 1)
          → Walked new (next (length old) frame) again (k + 1)
      walked_more new again b c mh ms mt len pass mark others sp = record {
        held = upd w.held k b;
        touched = upd w.touched k c;
        may_hold_all = upd_all (λ j x _. may_hold (step j) x) w.held w.held k b b (subst (λ (f : ℕ). may_hold f b) w.here mh) (λ j o. w.may_hold_all j);
        may_touch_some = upd_all (λ j x _. (x ≡ false) ⊎ may_touch (step j) x) w.touched w.touched k c c (subst (λ (f : ℕ). (c ≡ false) ⊎ may_touch f c) w.here ms) (λ j o. w.may_touch_some j);
        may_touch_met = upd_all (λ j x y. j < k + 1 → x ≡ false → may_touch (step j) y) w.held w.touched k b c (λ _ e. subst (λ (f : ℕ). may_touch f c) w.here (mt e)) (λ j o l e. w.may_touch_met j (before j o l) e);
        unasked = upd_all (λ j x _. k + 1 ≤ j → x ≡ false) w.touched w.touched k c c (λ le. absurd (omega (arith, le))) (λ j o le. w.unasked j (omega (arith, le)));
        count_stays = len ∙ w.count_stays;
        here = ap (λ (f : ℕ). next (length old) f) w.here ∙ at_next (length old) hand k h lt;
        passed = upd_all (λ j x y. j < k + 1 → (not x && not (flag old (step j) || y)) ≡ false) w.held w.touched k b c (λ _. pass) (λ j o l. w.passed j (before j o l));
        gone = upd_all (λ j x y. j < k + 1 → flag new (step j) ≡ ((flag old (step j) || y) && x)) w.held w.touched k b c (λ _. mark) (λ j o l. others j o (omega (arith, before j o l, lt)) ∙ w.gone j (before j o l));
        left = λ j le l. others j (λ e. absurd (omega (arith, e, le))) l ∙ w.left j (omega (arith, le)) l;
        spared_is = sp;
      }
        where
          before : (j : ℕ) → j ≢ k → j < k + 1 → j < k
          before j o l = ⊎_elim (λ x. x) (λ ge. absurd (o (omega (arith, ge, l)))) (lt_or_le j k)

      spared_held : (again : Option ℕ) → spared ≡ again → Spared (upd w.held k true) again (k + 1)
      spared_held None e =
          let s : Spared w.held None k = subst (λ (o : Option ℕ). Spared w.held o k) e w.spared_is in
          λ j l. upd_all (λ i x _. i < k + 1 → x ≡ true) w.held w.held k true true (λ _. refl) (λ i o l'. s i (⊎_elim (λ x. x) (λ ge. absurd (o (omega (arith, ge, l')))) (lt_or_le i k))) j l
      spared_held (Some v) e =
          let s : Spared w.held (Some v) k = subst (λ (o : Option ℕ). Spared w.held o k) e w.spared_is in
          (s.0, omega (arith, s.1), s.2, upd_before w.held k true s.0 s.1 ∙ s.3, λ j l. upd_before w.held k true j (omega (arith, l, s.1)) ∙ s.4 j l)

      spared_marked : (o : Option ℕ) → spared ≡ o → Spared (upd w.held k false) (or_this o frame) (k + 1)
      spared_marked None e =
          let s : Spared w.held None k = subst (λ (o : Option ℕ). Spared w.held o k) e w.spared_is in
          (k, omega arith, w.here, upd_at w.held k false, λ j l. upd_before w.held k false j l ∙ s j l)
      spared_marked (Some v) e =
          let s : Spared w.held (Some v) k = subst (λ (o : Option ℕ). Spared w.held o k) e w.spared_is in
          (s.0, omega (arith, s.1), s.2, upd_before w.held k false s.0 s.1 ∙ s.3, λ j l. upd_before w.held k false j (omega (arith, l, s.1)) ∙ s.4 j l)

      pub walked_held : (new : List Bool) (m : Met) → m ≡ met.Held → IsMet may_hold may_touch frame marks new m → Walked new (next (length old) frame) spared (k + 1)
      walked_held new m is i =
          let f : Finds frame marks new i.held i.touched met.Held = subst (λ (x : Met). Finds frame marks new i.held i.touched x) is i.finds in
          let a : may_hold frame true = subst (λ (b : Bool). may_hold frame b) f.0 i.may_hold_it in
          walked_more new spared true false a (inl refl) (λ e. absurd (true≢false e)) (ap length f.2) refl
          (ap (λ (l : List Bool). flag l (step k)) f.2 ∙ w.left k (omega arith) lt ∙ sym (and_true (flag old (step k) || false) ∙ or_false (flag old (step k))))
          (λ j o l. ap (λ (xs : List Bool). flag xs (step j)) f.2) (spared_held spared refl)

      pub walked_marked : (new : List Bool) (m : Met) → m ≡ met.Marked → IsMet may_hold may_touch frame marks new m → Walked new (next (length old) frame) (or_this spared frame) (k + 1)
      walked_marked new m is i =
          let f : Finds frame marks new i.held i.touched met.Marked = subst (λ (x : Met). Finds frame marks new i.held i.touched x) is i.finds in
          let a : may_hold frame false = subst (λ (b : Bool). may_hold frame b) f.0 i.may_hold_it in
          let fits : frame < length marks = omega (arith, w.here, w.count_stays, at_below (length old) hand k h lt) in
          let mark : (flag old (step k) || i.touched) ≡ true = ap (λ (b : Bool). b || i.touched) (sym mark_at) ∙ f.1 in
          walked_more new (or_this spared frame) false i.touched a (inr (i.may_touch_it f.0)) (λ _. i.may_touch_it f.0) (ap length f.2 ∙ length-set marks frame false) (ap (λ (b : Bool). not b) mark)
          (ap (λ (l : List Bool). flag l (step k)) f.2 ∙ (ap (λ (x : ℕ). flag (set marks frame false) x) (sym w.here) ∙ (get_or-set_same marks frame false false fits ∙ sym (and_false (flag old (step k) || i.touched)))))
          (λ j o l. ap (λ (xs : List Bool). flag xs (step j)) f.2 ∙ get_or-set_other marks frame (step j) false false (λ e. at_apart (length old) hand j k h l lt o (e ∙ w.here)))
          (spared_marked spared refl)

      pub walked_free : (new after : List Bool) (new_hand : ℕ) (m : Met) → m ≡ met.Free → IsMet may_hold may_touch frame marks new m → after ≡ new → new_hand ≡ next (length new) frame → IsWalked may_hold may_touch old hand (k + 1) after new_hand (Some frame)
      walked_free new after new_hand m is i stays moved =
          let f : Finds frame marks new i.held i.touched met.Free = subst (λ (x : Met). Finds frame marks new i.held i.touched x) is i.finds in
          let at_hand : new_hand ≡ next (length old) frame = moved ∙ ap (λ (n : ℕ). next n frame) (ap length f.2 ∙ w.count_stays) in
          subst (λ (l : List Bool). IsWalked may_hold may_touch old hand (k + 1) l new_hand (Some frame)) (sym stays) (
          let a : may_hold frame false = subst (λ (b : Bool). may_hold frame b) f.0 i.may_hold_it in
          let held : ℕ → Bool = upd w.held k false in
          let touched : ℕ → Bool = upd w.touched k i.touched in
          let free : (flag old (step k) || i.touched) ≡ false = ap (λ (b : Bool). b || i.touched) (sym mark_at) ∙ f.1 in
          let here : may_touch (step k) i.touched = subst (λ (x : ℕ). may_touch x i.touched) w.here (i.may_touch_it f.0) in
          let t : ℕ → Bool = λ j. not (held j) && not (marked held touched old hand j) in
          let found : first t (length old) 0 ≡ Some k = first_found t (length old) 0 k (omega arith) (omega (arith, lt))
          (upd_all (λ j x y. j ≡ k → (not x && not (flag old (step j) || y)) ≡ true) w.held w.touched k false i.touched (λ _. ap (λ (b : Bool). not b) free) (λ j o e. absurd (o e)) k refl)
          (λ j ge l. upd_all (λ i' x y. i' < k → (not x && not (flag old (step i') || y)) ≡ false) w.held w.touched k false i.touched (λ l'. absurd (omega (arith, l'))) (λ i' o l'. w.passed i' l') j l) in
          let is_chosen : chosen held touched old hand ≡ Some (k, k) = ap (λ (o : Option ℕ). unmarked (length old) o (first (λ j. not (held j)) (length old) 0)) found in
          record {
            held = held;
            touched = touched;
            may_hold_all = upd_all (λ j x _. may_hold (step j) x) w.held w.held k false false (subst (λ (x : ℕ). may_hold x false) w.here a) (λ j o. w.may_hold_all j);
            may_touch_some = upd_all (λ j x _. (x ≡ false) ⊎ may_touch (step j) x) w.touched w.touched k i.touched i.touched (inr here) (λ j o. w.may_touch_some j);
            may_touch_met = λ j l r e. ⊎_elim
                (λ b. ⊎_elim
                (λ lt'. upd_all (λ i' x y. i' < k → x ≡ false → may_touch (step i') y) w.held w.touched k false i.touched (λ l'. absurd (omega (arith, l'))) (λ i' o l' e'. w.may_touch_met i' l' e') j lt' e)
                (λ ge. subst (λ (x : ℕ). may_touch (step x) (touched x)) (omega (arith, b, ge)) (subst (λ (x : Bool). may_touch (step k) x) (sym (upd_at w.touched k i.touched)) here))
                (lt_or_le j k))
                (λ more. absurd (true≢false (sym (r k (omega (arith, more))) ∙ upd_all (λ i' x y. i' ≡ k → (x || (flag old (step i') || y)) ≡ false) w.held w.touched k false i.touched (λ _. free) (λ i' o e'. absurd (o e')) k refl)))
                (lt_or_le j (k + 1));
            once = omega (arith, lt);
            asked = λ j l. upd_all (λ i' x y. i' < k → (x || (flag old (step i') || y)) ≡ true) w.held w.touched k false i.touched (λ l'. absurd (omega (arith, l')))
                (λ i' o l'. not_neither (w.held i') (flag old (step i') || w.touched i') (w.passed i' l')) j (omega (arith, l));
            swept = record {
              victim_is = ap (λ (x : ℕ). Some x) w.here ∙ ap (λ (o : Option (ℕ × ℕ)). victim (length old) hand o) (sym is_chosen);
              hand_is = at_hand ∙ (ap (λ (x : ℕ). next (length old) x) w.here ∙ ap (λ (o : Option (ℕ × ℕ)). hand_after (length old) hand o) (sym is_chosen));
              count_stays = ap length f.2 ∙ w.count_stays;
              marks_are = λ j l. ap (λ (xs : List Bool). flag xs (step j)) f.2 ∙ (upd_all (λ i' x y. i' < length old → flag marks (step i') ≡ ((flag old (step i') || y) && (x || not (ltb i' k)))) w.held w.touched k false i.touched
                  (λ l'. w.left k (omega arith) l' ∙ (or_left (flag old (step k)) i.touched free ∙ sym (ap (λ (b : Bool). b && not (ltb k k)) free)))
                  (λ i' o l'. ⊎_elim
                  (λ b. w.gone i' b ∙ ap (λ (z : Bool). (flag old (step i') || w.touched i') && z) (sym (or_false (w.held i')) ∙ ap (λ (z : Bool). w.held i' || not z) (sym (lt-ltb i' k b))))
                  (λ ge. w.left i' ge l' ∙ (sym (or_false (flag old (step i'))) ∙ (ap (λ (z : Bool). flag old (step i') || z) (sym (w.unasked i' ge))
                  ∙ (sym (and_true (flag old (step i') || w.touched i')) ∙ ap (λ (z : Bool). (flag old (step i') || w.touched i') && z) (sym (or_true (w.held i')) ∙ ap (λ (z : Bool). w.held i' || not z) (sym (le-ltb i' k ge)))))))
                  (lt_or_le i' k))
                  j l
                  ∙ ap (λ (o : Option (ℕ × ℕ)). marked held touched old hand j && (held j || not (ltb j (spent o)))) (sym is_chosen));
            };
          })
        where
          or_left : (x y : Bool) → (x || y) ≡ false → x ≡ false
          or_left true y e = e
          or_left false y e = refl

    -- no frame was free
    abbrev pub hand_from : Option ℕ → ℕ
    hand_from None = hand
    hand_from (Some f) = next (length old) f

    pub walked_all : (marks : List Bool) (frame new_hand : ℕ) (spared : Option ℕ) → Walked marks frame spared (length old) → new_hand ≡ hand_from spared → IsWalked may_hold may_touch old hand (length old) marks new_hand spared
    walked_all marks frame new_hand spared w at_hand = by spared refl
      where
        none : first (is_free w.held w.touched) (length old) 0 ≡ None
        none = first_none (is_free w.held w.touched) (length old) 0 (λ j ge l. w.passed j (omega (arith, l)))

        made : (o : Option (ℕ × ℕ)) → chosen w.held w.touched old hand ≡ o → spared ≡ victim (length old) hand o → new_hand ≡ hand_after (length old) hand o
            → ((j : ℕ) → j < length old → flag marks (step j) ≡ (marked w.held w.touched old hand j && (w.held j || not (ltb j (spent o)))))
            → IsWalked may_hold may_touch old hand (length old) marks new_hand spared
        made o c v n m = record {
          held = w.held;
          touched = w.touched;
          may_hold_all = w.may_hold_all;
          may_touch_some = w.may_touch_some;
          may_touch_met = λ k l r e. w.may_touch_met k l e;
          once = omega arith;
          asked = λ j l. not_neither (w.held j) (flag old (step j) || w.touched j) (w.passed j (omega (arith, l)));
          swept = record {
            victim_is = v ∙ ap (λ (x : Option (ℕ × ℕ)). victim (length old) hand x) (sym c);
            hand_is = n ∙ ap (λ (x : Option (ℕ × ℕ)). hand_after (length old) hand x) (sym c);
            count_stays = w.count_stays;
            marks_are = λ j l. m j l ∙ ap (λ (x : Option (ℕ × ℕ)). marked w.held w.touched old hand j && (w.held j || not (ltb j (spent x)))) (sym c);
          };
        }

        by : (o : Option ℕ) → spared ≡ o → IsWalked may_hold may_touch old hand (length old) marks new_hand spared
        by None e =
            let s : Spared w.held None (length old) = subst (λ (x : Option ℕ). Spared w.held x (length old)) e w.spared_is in
            let all : first (λ j. not (w.held j)) (length old) 0 ≡ None = first_none (λ j. not (w.held j)) (length old) 0 (λ j ge l. ap (λ (b : Bool). not b) (s j (omega (arith, l)))) in
            made None (ap (λ (x : Option ℕ). unmarked (length old) x (first (λ j. not (w.held j)) (length old) 0)) none ∙ ap (λ (x : Option ℕ). unheld (length old) x) all) e (at_hand ∙ ap hand_from e)
            (λ j l. w.gone j l ∙ ap (λ (z : Bool). marked w.held w.touched old hand j && z) (s j l ∙ (sym (or_true (w.held j)) ∙ ap (λ (z : Bool). w.held j || not z) (sym (le-ltb j 0 (omega arith))))))
        by (Some v) e =
            let s : Spared w.held (Some v) (length old) = subst (λ (x : Option ℕ). Spared w.held x (length old)) e w.spared_is in
            let found : first (λ j. not (w.held j)) (length old) 0 ≡ Some s.0 = first_found (λ j. not (w.held j)) (length old) 0 s.0 (omega arith) (omega (arith, s.1)) (ap (λ (b : Bool). not b) s.3) (λ j ge l. ap (λ (b : Bool). not b) (s.4 j l)) in
            made (Some (s.0, length old)) (ap (λ (x : Option ℕ). unmarked (length old) x (first (λ j. not (w.held j)) (length old) 0)) none ∙ ap (λ (x : Option ℕ). unheld (length old) x) found)
            (e ∙ ap (λ (x : ℕ). Some x) s.2) (at_hand ∙ (ap hand_from e ∙ ap (λ (x : ℕ). next (length old) x) s.2))
            (λ j l. w.gone j l ∙ ap (λ (z : Bool). marked w.held w.touched old hand j && z) (sym (or_false (w.held j)) ∙ ap (λ (z : Bool). w.held j || not z) (sym (lt-ltb j (length old) l))))

-- flags that stand still give the sweep by them
false_at : (b : Bool) → (b ≡ false) ⊎ (b ≡ false) → b ≡ false
false_at b (inl e) = e
false_at b (inr e) = e

pub swept_by : (held_flags old : List Bool) (hand n : ℕ) (new : List Bool) (new_hand : ℕ) (result : Option ℕ) → IsWalked (λ f b. b ≡ flag held_flags f) (λ f b. b ≡ false) old hand n new new_hand result
    → IsSwept (λ k. flag held_flags (at (length old) hand k)) (λ k. false) old hand new new_hand result
swept_by held_flags old hand n new new_hand result w =
    let h : w.held ≡ (λ k. flag held_flags (at (length old) hand k)) = λ i k. w.may_hold_all k i in
    let t : w.touched ≡ (λ k. false) = λ i k. false_at (w.touched k) (w.may_touch_some k) i in
    subst (λ (p : (ℕ → Bool) × (ℕ → Bool)). IsSwept p.0 p.1 old hand new new_hand result) (λ i. (h i, t i)) w.swept

module _ (old : List Bool) (hand : ℕ) (may_hold may_touch : ℕ → Bool → Type 0) (marks : List Bool) (frame k : ℕ) (spared : Option ℕ) where
  -- the hand's frame is the one that is asked next
  pub here_is : Walked old hand may_hold may_touch marks frame spared k → frame ≡ at (length old) hand k
  here_is w = w.here

  pub frame_below : hand < length old → k < length old → Walked old hand may_hold may_touch marks frame spared k → (frame < length old) × (frame < length marks)
  frame_below h lt w = let b = at_below (length old) hand k h lt in (omega (arith, w.here, b), omega (arith, w.here, b, w.count_stays))

  pub spared_below : (v : ℕ) → hand < length old → k ≡ length old → spared ≡ Some v → Walked old hand may_hold may_touch marks frame spared k → v < length old
  spared_below v h all e w =
      let s : Spared old hand w.held (Some v) k = subst (λ (o : Option ℕ). Spared old hand w.held o k) e w.spared_is in
      let lt : s.0 < length old = omega (arith, s.1, all) in
      let b = at_below (length old) hand s.0 h lt in
      omega (arith, s.2, b)

  pub walked_found : (v new_hand : ℕ) (after : List Bool) → k ≡ length old → spared ≡ Some v → Walked old hand may_hold may_touch marks frame spared k → after ≡ marks → new_hand ≡ next (length marks) v → IsWalked may_hold may_touch old hand (length old) after new_hand (Some v)
  walked_found v new_hand after all e w stays moved =
      let is : new_hand ≡ next (length old) v = moved ∙ ap (λ (n : ℕ). next n v) w.count_stays in
      let at_end : Walked old hand may_hold may_touch marks frame spared (length old) = subst (λ (n : ℕ). Walked old hand may_hold may_touch marks frame spared n) all w in
      subst (λ (l : List Bool). IsWalked may_hold may_touch old hand (length old) l new_hand (Some v)) (sym stays)
      (walked_all old hand may_hold may_touch marks frame new_hand (Some v) (subst (λ (o : Option ℕ). Walked old hand may_hold may_touch marks frame o (length old)) e at_end) is)

  pub walked_lost : (new_hand : ℕ) → k ≡ length old → spared ≡ None → Walked old hand may_hold may_touch marks frame spared k → new_hand ≡ hand → IsWalked may_hold may_touch old hand (length old) marks new_hand spared
  walked_lost new_hand all e w is =
      let at_end : Walked old hand may_hold may_touch marks frame spared (length old) = subst (λ (n : ℕ). Walked old hand may_hold may_touch marks frame spared n) all w in
      walked_all old hand may_hold may_touch marks frame new_hand spared at_end (is ∙ sym (ap (λ (o : Option ℕ). hand_from old hand may_hold may_touch o) e))

-- ---- no victim

is_some : Option ℕ → Bool
is_some None = false
is_some (Some v) = true

-- each frame is reached by some step
step_to : (count hand f : ℕ) → hand < count → f < count → (j : ℕ) × (j < count) × (at count hand j ≡ f)
unfolding At
step_to count hand f h lt = ⊎_elim
    (λ less. (f + count - hand, omega (arith, less, h, lt), ⊎_elim (λ a. absurd (omega (arith, a.0, less, h))) (λ a. omega (arith, a.1, less, h)) (at_is count hand (f + count - hand))))
    (λ more. (f - hand, omega (arith, more, lt), ⊎_elim (λ a. omega (arith, a.1, more)) (λ a. absurd (omega (arith, a.0, more, lt))) (at_is count hand (f - hand))))
    (lt_or_le f hand)

-- where there is no victim, nothing has changed
pub swept_none : (held : ℕ → Bool) (old : List Bool) (hand : ℕ) (new : List Bool) (new_hand : ℕ) → hand < length old → IsSwept held (λ k. false) old hand new new_hand None → (new ≡ old) × (new_hand ≡ hand)
unfolding is_some
swept_none held old hand new new_hand h s = by (chosen held (λ k. false) old hand) refl
  where
    by : (o : Option (ℕ × ℕ)) → chosen held (λ k. false) old hand ≡ o → (new ≡ old) × (new_hand ≡ hand)
    by (Some c) e = absurd (true≢false (sym (ap is_some (s.victim_is ∙ ap (λ (o : Option (ℕ × ℕ)). victim (length old) hand o) e))))
    by None e = (
      same_lists new old s.count_stays (λ f d lt.
          let below : f < length old = omega (arith, lt, s.count_stays) in
          let j = step_to (length old) hand f h below in
          let stays : flag new (at (length old) hand j.0) ≡ flag old (at (length old) hand j.0) =
          s.marks_are j.0 j.1 ∙ (ap (λ (o : Option (ℕ × ℕ)). marked held (λ k. false) old hand j.0 && (held j.0 || not (ltb j.0 (spent o)))) e
          ∙ (ap (λ (b : Bool). marked held (λ k. false) old hand j.0 && (held j.0 || not b)) (le-ltb j.0 0 (omega arith)) ∙ (ap (λ (b : Bool). marked held (λ k. false) old hand j.0 && b) (or_true (held j.0))
          ∙ (and_true (marked held (λ k. false) old hand j.0) ∙ or_false (flag old (at (length old) hand j.0)))))) in
          get_or_default new f d false lt ∙ (subst (λ (x : ℕ). flag new x ≡ flag old x) j.2 stays ∙ get_or_default old f false d below)),
      s.hand_is ∙ ap (λ (o : Option (ℕ × ℕ)). hand_after (length old) hand o) e,
    )
