-- A client that closes, bytes behind a worker's close, and beginnings where a fault ends it.
use Rattle.std.proofs.Common.{◌≡◌, ◌⊎◌, ℕ, ◌<◌, Bool, true, inl, inr, List, [], ◌∷◌, ◌++◌, length, refl, sym, ap, ◌∙◌, arith, append_assoc, append-nil, length-append, subst}
use Rattle.resp.specs.declared.limits.Limits.{Limits}
use Rattle.request_loop.specs.declared.slots.Slots.{Slots}
use Rattle.request_loop.specs.Marks.{Mark, said, is_stopped}
use Rattle.request_loop.specs.Calls.{Exchange, asked, replied}
use Rattle.request_loop.specs.Workers.{protocol_error, IsOpen, IsOver, IsSettledBy}
use Rattle.request_loop.specs.Served.{IsBegunBy, AreBegun}
use Rattle.request_loop.specs.Slots.{Seen, Fresh, Runs, Closed, Gone, slot_at, Replaces, StandsAt, AllStand, InTurn, IsAnswered}
use Rattle.request_loop.specs.Turns.{Says}
use Rattle.request_loop.proofs.Saying.{StopsAt}
use Rattle.request_loop.proofs.Standing.{same_on, others_say, others_stop, settled_by, stands_so, at_or, placed_so}

-- ---- a client that closes, and bytes behind a worker's close

-- where nothing came yet
pub free_stands : (limits : Limits) (d : ℕ) → StandsAt limits d [] [] [] Fresh
free_stands limits d = (refl, refl, refl, refl, refl, refl)

-- the client closes a connection that runs, and the worker does
pub client_left : (limits : Limits) (c : ℕ) (slots slots' : Slots) (held : List ℕ) (wanted : ℕ) (came came' sent sent' : List (Mark ℕ)) (steps steps' : List (Mark Exchange)) → AllStand limits slots came sent steps → slot_at slots c ≡ Runs held wanted → StopsAt c came came' → StopsAt c steps steps' → StopsAt c sent sent' → Replaces c Gone slots slots' → AllStand limits slots' came' sent' steps'
client_left limits c slots slots' held wanted came came' sent sent' steps steps' h is o p q r =
    let P : Seen → Type 0 = λ x. StandsAt limits c came sent steps x in
    let mine : StandsAt limits c came sent steps (Runs held wanted) = subst P is (h.now c) in
    let C : List ℕ → Type 0 = λ l. IsOpen limits l (said c sent) (said c steps) held wanted in
    let S : List ℕ → Type 0 = λ l. IsOpen limits (said c came') l (said c steps) held wanted in
    let T : List Exchange → Type 0 = λ l. IsOpen limits (said c came') (said c sent') l held wanted in
    let was : IsOpen limits (said c came') (said c sent') (said c steps') held wanted = subst T (sym (p.same c)) (subst S (sym (q.same c)) (subst C (sym (o.same c)) mine.3)) in
    record {
      now = placed_so limits c slots slots' Gone came' sent' steps' r (inl (held, wanted, was, q.here ∙ sym o.here), q.here, p.here) (λ d other. stands_so limits d came came' sent sent' steps steps' (slot_at slots d) (others_stop c d came came' other o) (others_stop c d sent sent' other q) (others_stop c d steps steps' other p) (h.now d));
      once_sent = λ d. q.once mine.1 d (h.once_sent d);
      once_steps = λ d. p.once mine.2 d (h.once_steps d);
    }

-- the client closes a connection that is over
pub client_left_too : (limits : Limits) (c : ℕ) (slots slots' : Slots) (came came' sent : List (Mark ℕ)) (steps : List (Mark Exchange)) → AllStand limits slots came sent steps → slot_at slots c ≡ Closed → StopsAt c came came' → Replaces c Gone slots slots' → AllStand limits slots' came' sent steps
client_left_too limits c slots slots' came came' sent steps h is o r =
    let P : Seen → Type 0 = λ x. StandsAt limits c came sent steps x in
    let mine : StandsAt limits c came sent steps Closed = subst P is (h.now c) in
    let C : List ℕ → Type 0 = λ l. IsOver limits l (said c sent) (said c steps) in
    let was : IsOver limits (said c came') (said c sent) (said c steps) = subst C (sym (o.same c)) mine.2 in
    record {
      now = placed_so limits c slots slots' Gone came' sent steps r (inr (was, mine.0), mine.0, mine.1) (λ d other. stands_so limits d came came' sent sent steps steps (slot_at slots d) (others_stop c d came came' other o) (same_on d sent) (same_on d steps) (h.now d));
      once_sent = h.once_sent;
      once_steps = h.once_steps;
    }

lost_more : (rest packet : List ℕ) (es : List Exchange) → (0 < length rest) ⊎ (es ≡ []) → (0 < length (rest ++ packet)) ⊎ (es ≡ [])
lost_more rest packet es lost = elim lost [ inl some ↦ inl (omega (arith, some, length-append rest packet)) | inr none ↦ inr none ]

over_more : (limits : Limits) (came sent packet : List ℕ) (es : List Exchange) → IsOver limits came sent es → IsOver limits (came ++ packet) sent es
over_more limits came sent packet es o =
    elim o [
      | inl b ↦ inl (record {
        rest = b.rest;
        behind = b.behind ++ packet;
        is = ap (λ l. l ++ packet) b.is ∙ (append_assoc (asked es) (b.rest ++ b.behind) packet ∙ ap (λ l. asked es ++ l) (append_assoc b.rest b.behind packet));
        each = b.each;
        go_on = b.go_on;
        at = b.at;
        spoilt = b.spoilt;
        fault = b.fault;
        cause = b.cause;
        sent_is = b.sent_is;
      })
      | inr e ↦ elim e [
        | inl b ↦ inr (inl (record {
          rest = b.rest ++ packet;
          is = ap (λ l. l ++ packet) b.is ∙ append_assoc (asked es) b.rest packet;
          each = b.each;
          before = b.before;
          last = b.last;
          es_is = b.es_is;
          go_on = b.go_on;
          is_last = b.is_last;
          sent_is = b.sent_is;
        }))
        | inr b ↦ inr (inr (record {
          rest = b.rest ++ packet;
          is = ap (λ l. l ++ packet) b.is ∙ append_assoc (asked es) b.rest packet;
          each = b.each;
          go_on = b.go_on;
          lost = lost_more b.rest packet es b.lost;
          sent_is = b.sent_is;
        }))
      ]
    ]

-- bytes came on a connection that is over
pub passed_over : (limits : Limits) (c : ℕ) (slots : Slots) (bytes : List ℕ) (came came' sent : List (Mark ℕ)) (steps : List (Mark Exchange)) → AllStand limits slots came sent steps → slot_at slots c ≡ Closed → Says c bytes came came' → AllStand limits slots came' sent steps
passed_over limits c slots bytes came came' sent steps h is s =
    let P : Seen → Type 0 = λ x. StandsAt limits c came sent steps x in
    let mine : StandsAt limits c came sent steps Closed = subst P is (h.now c) in
    let C : List ℕ → Type 0 = λ l. IsOver limits l (said c sent) (said c steps) in
    let was : IsOver limits (said c came') (said c sent) (said c steps) = subst C (sym s.here) (over_more limits _ _ bytes _ mine.2) in
    record {
      now = placed_so limits c slots slots Closed came' sent steps (record { here = is; others = λ d other. refl }) (mine.0, mine.1, was) (λ d other. stands_so limits d came came' sent sent steps steps (slot_at slots d) (others_say c d bytes came came' other s) (same_on d sent) (same_on d steps) (h.now d));
      once_sent = h.once_sent;
      once_steps = h.once_steps;
    }

-- ---- what comes of a connection that is gone

open_more : (limits : Limits) (n m : Bool) (came sent packet : List ℕ) (es : List Exchange) (held : List ℕ) (wanted : ℕ) → IsOpen limits came sent es held wanted → m ≡ n → m ≡ true → IsSettledBy limits n m (came ++ packet) sent es
open_more limits n m came sent [] es held wanted o same stopped =
    let P : List ℕ → Type 0 = λ l. IsOpen limits l sent es held wanted in
    inl (held, wanted, subst P (sym (append-nil came)) o, same)
open_more limits n m came sent (x ∷ xs) es held wanted o same stopped = inr (
  inr (inr (record {
    rest = held ++ x ∷ xs;
    is = ap (λ l. l ++ x ∷ xs) o.is ∙ append_assoc (asked es) held (x ∷ xs);
    each = o.each;
    go_on = o.go_on;
    lost = inl (omega (arith, length-append held (x ∷ xs)));
    sent_is = o.sent_is;
  })),
  stopped,
)

settled_more : (limits : Limits) (n m : Bool) (came sent packet : List ℕ) (es : List Exchange) → m ≡ true → IsSettledBy limits n m came sent es → IsSettledBy limits n m (came ++ packet) sent es
settled_more limits n m came sent packet es stopped s =
    elim s [
      | inl o ↦ open_more limits n m came sent packet es o.0 o.1 o.2 o.3 stopped
      | inr o ↦ inr (over_more limits came sent packet es o.0, o.1)
    ]

settled_stopped : (limits : Limits) (n m : Bool) (came sent : List ℕ) (es : List Exchange) → m ≡ true → IsSettledBy limits n m came sent es → IsSettledBy limits true m came sent es
settled_stopped limits n m came sent es stopped s =
    elim s [
      | inl o ↦ inl (o.0, o.1, o.2, stopped)
      | inr o ↦ inr o
    ]

-- bytes came
pub passed_gone : (limits : Limits) (c : ℕ) (slots : Slots) (bytes : List ℕ) (came came' sent : List (Mark ℕ)) (steps : List (Mark Exchange)) → AllStand limits slots came sent steps → slot_at slots c ≡ Gone → Says c bytes came came' → AllStand limits slots came' sent steps
passed_gone limits c slots bytes came came' sent steps h is s =
    let P : Seen → Type 0 = λ x. StandsAt limits c came sent steps x in
    let mine : StandsAt limits c came sent steps Gone = subst P is (h.now c) in
    let C : List ℕ → Type 0 = λ l. IsSettledBy limits (is_stopped c came) (is_stopped c sent) l (said c sent) (said c steps) in
    let N : Bool → Type 0 = λ n. IsSettledBy limits n (is_stopped c sent) (said c came') (said c sent) (said c steps) in
    let was : IsSettledBy limits (is_stopped c came') (is_stopped c sent) (said c came') (said c sent) (said c steps) = subst N (sym (s.stops_are c)) (subst C (sym s.here) (settled_more limits (is_stopped c came) (is_stopped c sent) (said c came) (said c sent) bytes (said c steps) mine.1 mine.0)) in
    record {
      now = placed_so limits c slots slots Gone came' sent steps (record { here = is; others = λ d other. refl }) (was, mine.1, mine.2) (λ d other. stands_so limits d came came' sent sent steps steps (slot_at slots d) (others_say c d bytes came came' other s) (same_on d sent) (same_on d steps) (h.now d));
      once_sent = h.once_sent;
      once_steps = h.once_steps;
    }

-- the client closes
pub stopped_gone : (limits : Limits) (c : ℕ) (slots : Slots) (came came' sent : List (Mark ℕ)) (steps : List (Mark Exchange)) → AllStand limits slots came sent steps → slot_at slots c ≡ Gone → StopsAt c came came' → AllStand limits slots came' sent steps
stopped_gone limits c slots came came' sent steps h is o =
    let P : Seen → Type 0 = λ x. StandsAt limits c came sent steps x in
    let mine : StandsAt limits c came sent steps Gone = subst P is (h.now c) in
    let C : List ℕ → Type 0 = λ l. IsSettledBy limits true (is_stopped c sent) l (said c sent) (said c steps) in
    let N : Bool → Type 0 = λ n. IsSettledBy limits n (is_stopped c sent) (said c came') (said c sent) (said c steps) in
    let was : IsSettledBy limits (is_stopped c came') (is_stopped c sent) (said c came') (said c sent) (said c steps) = subst N (sym o.here) (subst C (sym (o.same c)) (settled_stopped limits (is_stopped c came) (is_stopped c sent) (said c came) (said c sent) (said c steps) mine.1 mine.0)) in
    record {
      now = placed_so limits c slots slots Gone came' sent steps (record { here = is; others = λ d other. refl }) (was, mine.1, mine.2) (λ d other. stands_so limits d came came' sent sent steps steps (slot_at slots d) (others_stop c d came came' other o) (same_on d sent) (same_on d steps) (h.now d));
      once_sent = h.once_sent;
      once_steps = h.once_steps;
    }

-- ---- beginnings, where a fault ends it

begun_over : (limits : Limits) (came sent : List ℕ) (es : List Exchange) → IsOver limits came sent es → IsBegunBy limits came sent es
begun_over limits came sent es o =
    elim o [
      | inl b ↦ record { rest = b.rest ++ b.behind; is = b.is; each = b.each; owed = []; error = protocol_error b.rest b.at b.fault; error_is = inr (b.rest, b.at, b.fault, refl); sent_is = append-nil sent ∙ b.sent_is }
      | inr e ↦ elim e [
        | inl b ↦ record { rest = b.rest; is = b.is; each = b.each; owed = []; error = []; error_is = inl refl; sent_is = append-nil sent ∙ (b.sent_is ∙ sym (append-nil (replied es))) }
        | inr b ↦ record { rest = b.rest; is = b.is; each = b.each; owed = []; error = []; error_is = inl refl; sent_is = append-nil sent ∙ (b.sent_is ∙ sym (append-nil (replied es))) }
      ]
    ]

begun_settled : (limits : Limits) (n m : Bool) (came sent : List ℕ) (es : List Exchange) → IsSettledBy limits n m came sent es → IsBegunBy limits came sent es
begun_settled limits n m came sent es s =
    elim s [
      | inl o ↦ record { rest = o.0; is = o.2.is; each = o.2.each; owed = []; error = []; error_is = inl refl; sent_is = append-nil sent ∙ (o.2.sent_is ∙ sym (append-nil (replied es))) }
      | inr o ↦ begun_over limits came sent es o.0
    ]

pub begun_stands : (limits : Limits) (d : ℕ) (came sent : List (Mark ℕ)) (steps : List (Mark Exchange)) (s : Seen) → StandsAt limits d came sent steps s → IsBegunBy limits (said d came) (said d sent) (said d steps)
begun_stands limits d came sent steps s h = begun_settled limits (is_stopped d came) (is_stopped d sent) _ _ _ (settled_by limits (is_stopped d came) (is_stopped d sent) (is_stopped d steps) _ _ _ s h)

pub begun : (limits : Limits) (slots : Slots) (came sent : List (Mark ℕ)) (steps : List (Mark Exchange)) → AllStand limits slots came sent steps → AreBegun limits came sent steps
begun limits slots came sent steps h d = begun_stands limits d came sent steps (slot_at slots d) (h.now d)

-- in a turn, of what a beginning is told with the replies that are still to be sent
pub begun_turn : (P : List ℕ → List ℕ → List Exchange → Type 0) (limits : Limits) (c : ℕ) (slots : Slots) (out : List ℕ) (came sent : List (Mark ℕ)) (steps : List (Mark Exchange)) → ((a b : List ℕ) (es : List Exchange) → P a b es → IsBegunBy limits a b es) → InTurn P limits c slots out came sent steps → AreBegun limits came sent steps
begun_turn P limits c slots out came sent steps tells t d =
    let b = tells (said c came) (said c sent ++ out) (said c steps) t.mine in
    let less : IsBegunBy limits (said c came) (said c sent) (said c steps) = record {
      rest = b.rest;
      is = b.is;
      each = b.each;
      owed = out ++ b.owed;
      error = b.error;
      error_is = b.error_is;
      sent_is = sym (append_assoc (said c sent) out b.owed) ∙ b.sent_is;
    } in
    at_or c d (λ x. IsBegunBy limits (said x came) (said x sent) (said x steps)) less (λ other. begun_stands limits d came sent steps (slot_at slots d) (t.others d other))

pub begun_answered : (limits : Limits) (rest a b : List ℕ) (es : List Exchange) → IsAnswered limits rest a b es → IsBegunBy limits a b es
begun_answered limits rest a b es o = record { rest = rest; is = o.is; each = o.each; owed = []; error = []; error_is = inl refl; sent_is = append-nil b ∙ (o.sent_is ∙ sym (append-nil (replied es))) }

pub begun_closed : (limits : Limits) (a b : List ℕ) (es : List Exchange) → IsOver limits a b es → IsBegunBy limits a b es
begun_closed limits a b es o = begun_over limits a b es o

begun_more : (limits : Limits) (came sent packet : List ℕ) (es : List Exchange) → IsBegunBy limits came sent es → IsBegunBy limits (came ++ packet) sent es
begun_more limits came sent packet es b = record {
  rest = b.rest ++ packet;
  is = ap (λ l. l ++ packet) b.is ∙ append_assoc (asked es) b.rest packet;
  each = b.each;
  owed = b.owed;
  error = b.error;
  error_is = b.error_is;
  sent_is = b.sent_is;
}

-- a packet came
pub begun_says : (limits : Limits) (c : ℕ) (xs : List ℕ) (came came' sent : List (Mark ℕ)) (steps : List (Mark Exchange)) → Says c xs came came' → AreBegun limits came sent steps → AreBegun limits came' sent steps
begun_says limits c xs came came' sent steps s b d =
    let P : List ℕ → Type 0 = λ l. IsBegunBy limits l (said c sent) (said c steps) in
    let Q : List ℕ → Type 0 = λ l. IsBegunBy limits l (said d sent) (said d steps) in
    at_or c d (λ x. IsBegunBy limits (said x came') (said x sent) (said x steps)) (subst P (sym s.here) (begun_more limits _ _ xs _ (b c))) (λ other. subst Q (sym (s.elsewhere d other)) (b d))

-- connections were stopped
pub begun_same : (limits : Limits) (came came' sent sent' : List (Mark ℕ)) (steps steps' : List (Mark Exchange)) → ((d : ℕ) → said d came' ≡ said d came) → ((d : ℕ) → said d sent' ≡ said d sent) → ((d : ℕ) → said d steps' ≡ said d steps) → AreBegun limits came sent steps → AreBegun limits came' sent' steps'
begun_same limits came came' sent sent' steps steps' p q r b d =
    let P : List ℕ → Type 0 = λ l. IsBegunBy limits l (said d sent) (said d steps) in
    let Q : List ℕ → Type 0 = λ l. IsBegunBy limits (said d came') l (said d steps) in
    let R : List Exchange → Type 0 = λ l. IsBegunBy limits (said d came') (said d sent') l in
    subst R (sym (r d)) (subst Q (sym (q d)) (subst P (sym (p d)) (b d)))
