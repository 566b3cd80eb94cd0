-- How connections stand, as packets come, requests are taken and packets are sent.
use Rattle.std.proofs.Common.{◌≡◌, ◌≢◌, ℕ, inl, inr, Bool, List, [], ◌∷◌, ◌++◌, refl, sym, ap, ◌∙◌, arith, append_assoc, append-nil, subst}
use Rattle.std.proofs.lemmas.Bool.Decides.{eqb_tells}
use Rattle.resp.specs.declared.limits.Limits.{Limits}
use Rattle.resp.proofs.Commands.{nothing_there}
use Rattle.request_loop.specs.declared.slots.Slots.{Slots}
use Rattle.request_loop.specs.Marks.{Mark, Else, said, is_stopped, EndsOnce}
use Rattle.request_loop.specs.Calls.{Exchange, request_bytes, reply_bytes, asked, replied, AreTaken, AllGoOn}
use Rattle.request_loop.specs.Workers.{IsBegun, IsOpen, IsShed, IsOver, IsSettledBy}
use Rattle.request_loop.specs.Slots.{Seen, Fresh, Runs, Closed, Gone, slot_at, Replaces, StandsBy, StandsAt, AllStand, InTurn, IsAnswered}
use Rattle.request_loop.specs.Turns.{Says}
use Rattle.request_loop.proofs.Saying.{StopsAt, says_else}

-- ---- lists of exchanges

pub asked-append : (es fs : List Exchange) → asked (es ++ fs) ≡ asked es ++ asked fs
asked-append [] fs = refl
asked-append (e ∷ es) fs = ap (λ l. request_bytes e ++ l) (asked-append es fs) ∙ sym (append_assoc (request_bytes e) (asked es) (asked fs))

pub replied-append : (es fs : List Exchange) → replied (es ++ fs) ≡ replied es ++ replied fs
replied-append [] fs = refl
replied-append (e ∷ es) fs = ap (λ l. reply_bytes e ++ l) (replied-append es fs) ∙ sym (append_assoc (reply_bytes e) (replied es) (replied fs))

pub taken-append : (limits : Limits) (es fs : List Exchange) → AreTaken limits es → AreTaken limits fs → AreTaken limits (es ++ fs)
taken-append limits [] fs he hf = hf
taken-append limits (e ∷ es) fs he hf = (he.0, taken-append limits es fs he.1 hf)

pub go_on-append : (es fs : List Exchange) → AllGoOn es → AllGoOn fs → AllGoOn (es ++ fs)
go_on-append [] fs he hf = hf
go_on-append (e ∷ es) fs he hf = (he.0, go_on-append es fs he.1 hf)

-- ---- connections on which nothing came

pub nothing_begun : (limits : Limits) → IsBegun limits [] 1
nothing_begun limits = record {
  begun = [];
  more = [];
  is = refl;
  missing = 1;
  lacks = nothing_there limits;
  wanted_is = omega arith;
  bounded = omega arith;
  few = omega arith;
}

fresh_open : (limits : Limits) (came sent : List ℕ) (es : List Exchange) → came ≡ [] → sent ≡ [] → es ≡ [] → IsOpen limits came sent es [] 1
fresh_open limits came sent es a b c =
    let P : List ℕ → Type 0 = λ l. IsOpen limits l sent es [] 1 in
    let Q : List ℕ → Type 0 = λ l. IsOpen limits [] l es [] 1 in
    let R : List Exchange → Type 0 = λ l. IsOpen limits [] [] l [] 1 in
    let o : IsOpen limits [] [] [] [] 1 = record { is = refl; each = tt; go_on = tt; begun = nothing_begun limits; sent_is = refl } in
    subst P (sym a) (subst Q (sym b) (subst R (sym c) o))

fresh_shed : (limits : Limits) (came sent : List ℕ) (es : List Exchange) → came ≡ [] → sent ≡ [] → es ≡ [] → IsShed limits came sent es
fresh_shed limits came sent es a b c =
    let P : List ℕ → Type 0 = λ l. IsShed limits l sent es in
    let Q : List ℕ → Type 0 = λ l. IsShed limits [] l es in
    let R : List Exchange → Type 0 = λ l. IsShed limits [] [] l in
    let o : IsShed limits [] [] [] = record { rest = []; is = refl; each = tt; go_on = tt; lost = inr refl; sent_is = refl } in
    subst P (sym a) (subst Q (sym b) (subst R (sym c) o))

-- ---- settled connections

-- however a connection stands, no reply is owed on it
pub settled_by : (limits : Limits) (came_stopped sent_stopped steps_stopped : Bool) (came sent : List ℕ) (es : List Exchange) (s : Seen) → StandsBy limits came_stopped sent_stopped steps_stopped came sent es s → IsSettledBy limits came_stopped sent_stopped came sent es
settled_by limits a b c came sent es Fresh h = inl ([], 1, fresh_open limits came sent es h.3 h.4 h.5, h.1 ∙ sym h.0)
settled_by limits a b c came sent es (Runs held wanted) h = inl (held, wanted, h.3, h.1 ∙ sym h.0)
settled_by limits a b c came sent es Closed h = inr (h.2, h.0)
settled_by limits a b c came sent es Gone h = h.0

pub left_by : (limits : Limits) (came_stopped sent_stopped steps_stopped : Bool) (came sent : List ℕ) (es : List Exchange) (s : Seen) → StandsBy limits came_stopped sent_stopped steps_stopped came sent es s → steps_stopped ≡ sent_stopped
left_by limits a b c came sent es Fresh h = h.2 ∙ sym h.1
left_by limits a b c came sent es (Runs held wanted) h = h.2 ∙ sym h.1
left_by limits a b c came sent es Closed h = h.1 ∙ sym h.0
left_by limits a b c came sent es Gone h = h.2 ∙ sym h.1

-- what is the same of a list and a longer one
pub record SameOn {A : Type 0} (d : ℕ) (old new : List (Mark A)) : Type 0 where
  pub said_is : said d new ≡ said d old
  pub stops_is : is_stopped d new ≡ is_stopped d old

pub same_on : {A : Type 0} (d : ℕ) (ms : List (Mark A)) → SameOn d ms ms
same_on d ms = record { said_is = refl; stops_is = refl }

pub others_say : {A : Type 0} (c d : ℕ) (xs : List A) (old new : List (Mark A)) → d ≢ c → Says c xs old new → SameOn d old new
others_say c d xs old new other s = record { said_is = s.elsewhere d other; stops_is = s.stops_are d }

pub others_stop : {A : Type 0} (c d : ℕ) (old new : List (Mark A)) → d ≢ c → StopsAt c old new → SameOn d old new
others_stop c d old new other s = record { said_is = s.same d; stops_is = s.others d other }

pub nothing_on : {A : Type 0} (d : ℕ) (ms : List (Mark A)) → SameOn d ms (ms ++ Else ∷ [])
nothing_on d ms =
    let s = says_else d ms in
    record { said_is = s.here ∙ append-nil (said d ms); stops_is = s.stops_are d }

pub stands_so : (limits : Limits) (d : ℕ) (came came' sent sent' : List (Mark ℕ)) (steps steps' : List (Mark Exchange)) (s : Seen) → SameOn d came came' → SameOn d sent sent' → SameOn d steps steps' → StandsAt limits d came sent steps s → StandsAt limits d came' sent' steps' s
stands_so limits d came came' sent sent' steps steps' s a b c t =
    let A1 : Bool → Type 0 = λ x. StandsBy limits x (is_stopped d sent) (is_stopped d steps) (said d came) (said d sent) (said d steps) s in
    let A2 : Bool → Type 0 = λ x. StandsBy limits (is_stopped d came') x (is_stopped d steps) (said d came) (said d sent) (said d steps) s in
    let A3 : Bool → Type 0 = λ x. StandsBy limits (is_stopped d came') (is_stopped d sent') x (said d came) (said d sent) (said d steps) s in
    let A4 : List ℕ → Type 0 = λ x. StandsBy limits (is_stopped d came') (is_stopped d sent') (is_stopped d steps') x (said d sent) (said d steps) s in
    let A5 : List ℕ → Type 0 = λ x. StandsBy limits (is_stopped d came') (is_stopped d sent') (is_stopped d steps') (said d came') x (said d steps) s in
    let A6 : List Exchange → Type 0 = λ x. StandsBy limits (is_stopped d came') (is_stopped d sent') (is_stopped d steps') (said d came') (said d sent') x s in
    subst A6 (sym c.said_is) (subst A5 (sym b.said_is) (subst A4 (sym a.said_is) (subst A3 (sym c.stops_is) (subst A2 (sym b.stops_is) (subst A1 (sym a.stops_is) t)))))

-- nothing of a connection is said: no connection stands otherwise
pub idle : (limits : Limits) (slots : Slots) (came came' sent sent' : List (Mark ℕ)) (steps steps' : List (Mark Exchange)) → ((d : ℕ) → SameOn d came came') → ((d : ℕ) → SameOn d sent sent') → ((d : ℕ) → SameOn d steps steps') → ((d : ℕ) → EndsOnce d sent → EndsOnce d sent') → ((d : ℕ) → EndsOnce d steps → EndsOnce d steps') → AllStand limits slots came sent steps → AllStand limits slots came' sent' steps'
idle limits slots came came' sent sent' steps steps' a b c p q h = record {
  now = λ d. stands_so limits d came came' sent sent' steps steps' (slot_at slots d) (a d) (b d) (c d) (h.now d);
  once_sent = λ d. p d (h.once_sent d);
  once_steps = λ d. q d (h.once_steps d);
}

-- ---- a turn

-- bytes came on a connection that runs
pub enter : (limits : Limits) (c : ℕ) (slots : Slots) (held bytes : List ℕ) (wanted : ℕ) (came came' sent : List (Mark ℕ)) (steps : List (Mark Exchange)) → AllStand limits slots came sent steps → slot_at slots c ≡ Runs held wanted → Says c bytes came came' → InTurn (IsAnswered limits (held ++ bytes)) limits c slots [] came' sent steps
enter limits c slots held bytes wanted came came' sent steps h is s =
    let P : Seen → Type 0 = λ x. StandsAt limits c came sent steps x in
    let mine : StandsAt limits c came sent steps (Runs held wanted) = subst P is (h.now c) in
    let o : IsOpen limits (said c came) (said c sent) (said c steps) held wanted = mine.3 in
    record {
      others = λ d other. stands_so limits d came came' sent sent steps steps (slot_at slots d) (others_say c d bytes came came' other s) (same_on d sent) (same_on d steps) (h.now d);
      came_on = s.stops_are c ∙ mine.0;
      sent_on = mine.1;
      steps_on = mine.2;
      once_sent = h.once_sent;
      once_steps = h.once_steps;
      mine = record {
        is = s.here ∙ (ap (λ l. l ++ bytes) o.is ∙ append_assoc (asked (said c steps)) held bytes);
        each = o.each;
        go_on = o.go_on;
        sent_is = append-nil (said c sent) ∙ o.sent_is;
      };
    }

-- a request is taken: what is told of it is told then of one more
pub took : (P Q : List ℕ → List ℕ → List Exchange → Type 0) (limits : Limits) (c : ℕ) (slots : Slots) (out out' : List ℕ) (xs : List Exchange) (came sent : List (Mark ℕ)) (steps steps' : List (Mark Exchange)) → ((a b : List ℕ) (es : List Exchange) → P a (b ++ out) es → Q a (b ++ out') (es ++ xs)) → Says c xs steps steps' → InTurn P limits c slots out came sent steps → InTurn Q limits c slots out' came sent steps'
took P Q limits c slots out out' xs came sent steps steps' goes s t =
    let R : List Exchange → Type 0 = λ l. Q (said c came) (said c sent ++ out') l in
    record {
      others = λ d other. stands_so limits d came came sent sent steps steps' (slot_at slots d) (same_on d came) (same_on d sent) (others_say c d xs steps steps' other s) (t.others d other);
      came_on = t.came_on;
      sent_on = t.sent_on;
      steps_on = s.stops_are c ∙ t.steps_on;
      once_sent = t.once_sent;
      once_steps = λ d. s.once t.steps_on d (t.once_steps d);
      mine = subst R (sym s.here) (goes (said c came) (said c sent) (said c steps) t.mine);
    }

-- replies are sent, or a part of them
pub wrote : (P : List ℕ → List ℕ → List Exchange → Type 0) (limits : Limits) (c : ℕ) (slots : Slots) (out part rest : List ℕ) (came sent sent' : List (Mark ℕ)) (steps : List (Mark Exchange)) → out ≡ part ++ rest → Says c part sent sent' → InTurn P limits c slots out came sent steps → InTurn P limits c slots rest came sent' steps
wrote P limits c slots out part rest came sent sent' steps is s t =
    let same : said c sent' ++ rest ≡ said c sent ++ out = ap (λ l. l ++ rest) s.here ∙ (append_assoc (said c sent) part rest ∙ ap (λ l. said c sent ++ l) (sym is)) in
    let R : List ℕ → Type 0 = λ l. P (said c came) l (said c steps) in
    record {
      others = λ d other. stands_so limits d came came sent sent' steps steps (slot_at slots d) (same_on d came) (others_say c d part sent sent' other s) (same_on d steps) (t.others d other);
      came_on = t.came_on;
      sent_on = s.stops_are c ∙ t.sent_on;
      steps_on = t.steps_on;
      once_sent = λ d. s.once t.sent_on d (t.once_sent d);
      once_steps = t.once_steps;
      mine = subst R (sym same) t.mine;
    }

-- a case for this connection, and one for the others
pub at_or : (c d : ℕ) (P : ℕ → Type 0) → P c → (d ≢ c → P d) → P d
at_or c d P here away =
    elim (eqb_tells d c) [
      | inl e ↦ subst P (sym e.1) here
      | inr e ↦ away e.1
    ]

-- one connection stands so, and the others as before
pub placed_so : (limits : Limits) (c : ℕ) (slots slots' : Slots) (view : Seen) (came sent : List (Mark ℕ)) (steps : List (Mark Exchange)) → Replaces c view slots slots' → StandsAt limits c came sent steps view → ((d : ℕ) → d ≢ c → StandsAt limits d came sent steps (slot_at slots d)) → (d : ℕ) → StandsAt limits d came sent steps (slot_at slots' d)
placed_so limits c slots slots' view came sent steps r here others d =
    let Q : Seen → Type 0 = λ x. StandsAt limits c came sent steps x in
    let R : Seen → Type 0 = λ x. StandsAt limits d came sent steps x in
    at_or c d (λ x. StandsAt limits x came sent steps (slot_at slots' x)) (subst Q (sym r.here) here) (λ other. subst R (sym (r.others d other)) (others d other))

-- the turn is over, and the connection goes on
pub leave_off : (limits : Limits) (c : ℕ) (slots slots' : Slots) (rest : List ℕ) (wanted : ℕ) (came sent : List (Mark ℕ)) (steps : List (Mark Exchange)) → InTurn (IsAnswered limits rest) limits c slots [] came sent steps → IsBegun limits rest wanted → Replaces c (Runs rest wanted) slots slots' → AllStand limits slots' came sent steps
leave_off limits c slots slots' rest wanted came sent steps t begun r =
    let o : IsOpen limits (said c came) (said c sent) (said c steps) rest wanted = record {
      is = t.mine.is;
      each = t.mine.each;
      go_on = t.mine.go_on;
      begun = begun;
      sent_is = sym (append-nil (said c sent)) ∙ t.mine.sent_is;
    } in
    record {
      now = placed_so limits c slots slots' (Runs rest wanted) came sent steps r (t.came_on, t.sent_on, t.steps_on, o) t.others;
      once_sent = t.once_sent;
      once_steps = t.once_steps;
    }

-- the turn is over, and the connection is closed
pub shut : (limits : Limits) (c : ℕ) (slots slots' : Slots) (came sent sent' : List (Mark ℕ)) (steps steps' : List (Mark Exchange)) → InTurn (IsOver limits) limits c slots [] came sent steps → StopsAt c steps steps' → StopsAt c sent sent' → Replaces c Closed slots slots' → AllStand limits slots' came sent' steps'
shut limits c slots slots' came sent sent' steps steps' t p q r =
    let O : List ℕ → Type 0 = λ l. IsOver limits (said c came) l (said c steps) in
    let Q : List Exchange → Type 0 = λ l. IsOver limits (said c came) (said c sent') l in
    let o : IsOver limits (said c came) (said c sent') (said c steps') = subst Q (sym (p.same c)) (subst O (sym (q.same c)) (subst O (append-nil (said c sent)) t.mine)) in
    record {
      now = placed_so limits c slots slots' Closed came sent' steps' r (q.here, p.here, o) (λ d other. stands_so limits d came came sent sent' steps steps' (slot_at slots d) (same_on d came) (others_stop c d sent sent' other q) (others_stop c d steps steps' other p) (t.others d other));
      once_sent = λ d. q.once t.sent_on d (t.once_sent d);
      once_steps = λ d. p.once t.steps_on d (t.once_steps d);
    }

-- ---- a connection begins

pub opens : (limits : Limits) (c : ℕ) (slots slots' : Slots) (came sent : List (Mark ℕ)) (steps : List (Mark Exchange)) → AllStand limits slots came sent steps → slot_at slots c ≡ Fresh → Replaces c (Runs [] 1) slots slots' → AllStand limits slots' came sent steps
opens limits c slots slots' came sent steps h is r =
    let P : Seen → Type 0 = λ x. StandsAt limits c came sent steps x in
    let mine : StandsAt limits c came sent steps Fresh = subst P is (h.now c) in
    record {
      now = placed_so limits c slots slots' (Runs [] 1) came sent steps r (mine.0, mine.1, mine.2, fresh_open limits (said c came) (said c sent) (said c steps) mine.3 mine.4 mine.5) (λ d other. h.now d);
      once_sent = h.once_sent;
      once_steps = h.once_steps;
    }

-- the worker gives it up at once
pub given_up : (limits : Limits) (c : ℕ) (slots slots' : Slots) (came sent sent' : List (Mark ℕ)) (steps steps' : List (Mark Exchange)) → AllStand limits slots came sent steps → slot_at slots c ≡ Fresh → StopsAt c steps steps' → StopsAt c sent sent' → Replaces c Gone slots slots' → AllStand limits slots' came sent' steps'
given_up limits c slots slots' came sent sent' steps steps' h is p q r =
    let P : Seen → Type 0 = λ x. StandsAt limits c came sent steps x in
    let mine : StandsAt limits c came sent steps Fresh = subst P is (h.now c) in
    let shed : IsShed limits (said c came) (said c sent') (said c steps') = fresh_shed limits (said c came) (said c sent') (said c steps') mine.3 (q.same c ∙ mine.4) (p.same c ∙ mine.5) in
    record {
      now = placed_so limits c slots slots' Gone came sent' steps' r (inr (inr (inr shed), q.here), q.here, p.here) (λ d other. stands_so limits d came came sent sent' steps steps' (slot_at slots d) (same_on d came) (others_stop c d sent sent' other q) (others_stop c d steps steps' other p) (h.now d));
      once_sent = λ d. q.once mine.1 d (h.once_sent d);
      once_steps = λ d. p.once mine.2 d (h.once_steps d);
    }
