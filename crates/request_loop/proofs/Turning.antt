-- A turn of a connection, step by step.
use Rattle.std.proofs.Common.{◌≡◌, ◌≢◌, ℕ, ◌+◌, ◌<◌, ◌≤◌, inl, inr, true, false, List, [], ◌∷◌, ◌++◌, length, drop, refl, sym, ap, ◌∙◌, arith, append_assoc, append-nil, subst}
use Rattle.std.proofs.lemmas.List.{map-append, drop-drop}
use Rattle.std.proofs.Math.Seq.{drop-append_seam}
use Rattle.resp.specs.declared.limits.Limits.{Limits}
use Rattle.resp.specs.Lines.{Lacks, Spoilt}
use Rattle.resp.specs.Requests.{command, IsAdmitted, longest}
use Rattle.resp.specs.declared.outcome.ParseFault.{ParseFault}
use Rattle.resp.specs.Parsing.{IsCause}
use Rattle.request_loop.specs.declared.service.Next.{Next}
use Rattle.request_loop.specs.declared.service.Next.TheVariants.{GoOn, WakeAll, End, LetIn, LetOut}
use Rattle.request_loop.specs.declared.requests.Turned.{Turned}
use Rattle.request_loop.specs.declared.requests.Turned.TheVariants.{Holds, Closes}
use Rattle.request_loop.specs.declared.slots.Slots.{Slots}
use Rattle.request_loop.specs.declared.packet.Kind.TheVariants.{Data}
use Rattle.request_loop.specs.Marks.{Mark, Piece, Else}
use Rattle.request_loop.specs.Calls.{Call, Left, Exchange, request_bytes, reply_bytes, asked, replied, IsTaken, GoesOn, IsLast, Step, Took, Ended, step_mark, step_marks, Does, Run}
use Rattle.request_loop.specs.Workers.{Packet, packet_mark, marks, protocol_error, IsBegun, IsOver}
use Rattle.request_loop.specs.Served.{IsBegunBy}
use Rattle.request_loop.specs.Slots.{Runs, Closed, IsAnswered, InTurn, Replaces}
use Rattle.request_loop.specs.Turns.{Says, Sends, Stands, Turns, Faulty, NextIs, TakesWhole, goes_on, closing, AnswersSo}
use Rattle.request_loop.proofs.Saying.{StopsAt, stops_at, says_piece, says_nothing, says_else}
use Rattle.request_loop.proofs.Standing.{asked-append, replied-append, taken-append, go_on-append, took, wrote, leave_off, shut}
use Rattle.request_loop.proofs.Closing.{begun_turn, begun_answered, begun_closed, begun_same}

-- a step more, behind what was said before
pub marks_more : (past : List (Mark Exchange)) (steps : List Step) (s : Step) → past ++ step_marks (steps ++ s ∷ []) ≡ (past ++ step_marks steps) ++ step_mark s ∷ []
marks_more past steps s = ap (λ l. past ++ l) (map-append step_mark steps (s ∷ [])) ∙ sym (append_assoc past (step_marks steps) (step_mark s ∷ []))

pub run_more : {X : Type 0} (does : X → Call → X → Type 0) (steps : List Step) (x m y : X) (s : Step) → Run does x steps m → Does does m s y → Run does x (steps ++ s ∷ []) y
run_more {X} does [] x m y s run step =
    let P : X → Type 0 = λ z. Does does z s y in
    (y, subst P (sym run) step, refl)
run_more does (t ∷ steps) x m y s run step = (run.0, run.1, run_more does steps run.0 m y s run.2 step)

sent_more : (out out' : List ℕ) (e : Exchange) (b : List ℕ) (es : List Exchange) → out' ≡ out ++ reply_bytes e → b ++ out ≡ replied es → b ++ out' ≡ replied (es ++ e ∷ [])
sent_more out out' e b es is so_far =
    ap (λ l. b ++ l) is
    ∙ (sym (append_assoc b out (reply_bytes e))
    ∙ (ap (λ l. l ++ reply_bytes e) so_far ∙ (ap (λ l. replied es ++ l) (sym (append-nil (reply_bytes e))) ∙ sym (replied-append es (e ∷ [])))))

came_more : (rest rest' : List ℕ) (e : Exchange) (a : List ℕ) (es : List Exchange) → rest ≡ request_bytes e ++ rest' → a ≡ asked es ++ rest → a ≡ asked (es ++ e ∷ []) ++ rest'
came_more rest rest' e a es is so_far =
    so_far
    ∙ (ap (λ l. asked es ++ l) is
    ∙ (sym (append_assoc (asked es) (request_bytes e) rest')
    ∙ ap (λ l. l ++ rest') (ap (λ l. asked es ++ l) (sym (append-nil (request_bytes e))) ∙ sym (asked-append es (e ∷ [])))))

-- a request more is answered
answered_more : (limits : Limits) (rest rest' out out' : List ℕ) (e : Exchange) → rest ≡ request_bytes e ++ rest' → out' ≡ out ++ reply_bytes e → IsTaken limits e → GoesOn e → (a b : List ℕ) (es : List Exchange) → IsAnswered limits rest a (b ++ out) es → IsAnswered limits rest' a (b ++ out') (es ++ e ∷ [])
answered_more limits rest rest' out out' e is out_is taken goes a b es o = record {
  is = came_more rest rest' e a es is o.is;
  each = taken-append limits es (e ∷ []) o.each (taken, tt);
  go_on = go_on-append es (e ∷ []) o.go_on (goes, tt);
  sent_is = sent_more out out' e b es out_is o.sent_is;
}

-- the last one is
answered_last : (limits : Limits) (rest rest' out out' : List ℕ) (e : Exchange) → rest ≡ request_bytes e ++ rest' → out' ≡ out ++ reply_bytes e → IsTaken limits e → IsLast e → (a b : List ℕ) (es : List Exchange) → IsAnswered limits rest a (b ++ out) es → IsOver limits a (b ++ out') (es ++ e ∷ [])
answered_last limits rest rest' out out' e is out_is taken last a b es o = inr (inl (record {
  rest = rest';
  is = came_more rest rest' e a es is o.is;
  each = taken-append limits es (e ∷ []) o.each (taken, tt);
  before = es;
  last = e;
  es_is = refl;
  go_on = o.go_on;
  is_last = last;
  sent_is = sent_more out out' e b es out_is o.sent_is;
}))

-- what follows is no request
answered_bad : (limits : Limits) (rest out out' : List ℕ) (at : ℕ) (fault : ParseFault) → out' ≡ out ++ protocol_error rest at fault → Spoilt command (IsAdmitted limits) rest at → IsCause limits rest at fault → (a b : List ℕ) (es : List Exchange) → IsAnswered limits rest a (b ++ out) es → IsOver limits a (b ++ out') (es ++ [])
answered_bad limits rest out out' at fault out_is bad cause a b es o =
    let P : List Exchange → Type 0 = λ l. IsOver limits a (b ++ out') l in
    subst P (sym (append-nil es)) (inl (record {
      rest = rest;
      behind = [];
      is = o.is ∙ ap (λ l. asked es ++ l) (sym (append-nil rest));
      each = o.each;
      go_on = o.go_on;
      at = at;
      spoilt = bad;
      fault = fault;
      cause = cause;
      sent_is = ap (λ l. b ++ l) out_is ∙ (sym (append_assoc b out (protocol_error rest at fault)) ∙ ap (λ l. l ++ protocol_error rest at fault) o.sent_is);
    }))

-- what follows is not kept
answered_shed : (limits : Limits) (rest out : List ℕ) → 0 < length rest → (a b : List ℕ) (es : List Exchange) → IsAnswered limits rest a (b ++ out) es → IsOver limits a (b ++ out) (es ++ [])
answered_shed limits rest out some a b es o =
    let P : List Exchange → Type 0 = λ l. IsOver limits a (b ++ out) l in
    subst P (sym (append-nil es)) (inr (inr (record { rest = rest; is = o.is; each = o.each; go_on = o.go_on; lost = inl some; sent_is = o.sent_is })))

-- what stands behind a request
rest_is : (bytes front rest : List ℕ) (at n : ℕ) → drop at bytes ≡ front ++ rest → length front ≡ n → drop (at + n) bytes ≡ rest
rest_is bytes front rest at n is long = sym (drop-drop n at bytes) ∙ (ap (drop n) is ∙ (ap (λ k. drop k (front ++ rest)) (sym long) ∙ drop-append_seam front rest))

goes_so : (next : Next) (e : Exchange) → next ≢ End → NextIs next e → GoesOn e
goes_so GoOn e not is = is
goes_so WakeAll e not is = is
goes_so LetIn e not is = is
goes_so LetOut e not is = is
goes_so End e not is = absurd (not refl)

pub turn_more : {D X : Type 0} (tells : D → D → List Packet → List Packet → Type 0) (does : X → Call → X → Type 0) (limits : Limits) (past : List (Mark Exchange)) (c : ℕ) (start now : D) (x y z : X) (slots : Slots) (bytes out out' : List ℕ) (at consumed : ℕ) (next : Next) → next ≢ End → TakesWhole does limits c y z (drop at bytes) consumed next out out' → Turns (IsAnswered limits (drop at bytes)) tells does limits past c start now x y slots out → Turns (IsAnswered limits (drop (at + consumed) bytes)) tells does limits past c start now x z slots out'
turn_more tells does limits past c start now x y z slots bytes out out' at consumed next goes w t =
    let behind : drop (at + consumed) bytes ≡ w.rest = rest_is bytes (request_bytes w.what) w.rest at consumed w.is w.long in
    let is : drop at bytes ≡ request_bytes w.what ++ drop (at + consumed) bytes = w.is ∙ ap (λ l. request_bytes w.what ++ l) (sym behind) in
    record {
      came = t.came;
      sent = t.sent;
      steps = t.steps ++ Took c w.what ∷ [];
      told = t.told;
      run = run_more does t.steps x y z (Took c w.what) t.run w.step;
      turn =
          let P : List (Mark Exchange) → Type 0 = λ m. InTurn (IsAnswered limits (drop (at + consumed) bytes)) limits c slots out' (marks t.came) (marks t.sent) m in
          subst P (sym (marks_more past t.steps (Took c w.what)))
          (took (IsAnswered limits (drop at bytes)) (IsAnswered limits (drop (at + consumed) bytes)) limits c slots out out' (w.what ∷ []) (marks t.came) (marks t.sent) (past ++ step_marks t.steps) (past ++ step_marks t.steps ++ Piece c (w.what ∷ []) ∷ []) (answered_more limits (drop at bytes) (drop (at + consumed) bytes) out out' w.what is w.out_is w.taken (goes_so next w.what goes w.next_is)) (says_piece c (w.what ∷ []) (past ++ step_marks t.steps)) t.turn);
    }

pub turn_last : {D X : Type 0} (tells : D → D → List Packet → List Packet → Type 0) (does : X → Call → X → Type 0) (limits : Limits) (past : List (Mark Exchange)) (c : ℕ) (start now : D) (x y z : X) (slots : Slots) (rest out out' : List ℕ) (consumed : ℕ) → TakesWhole does limits c y z rest consumed End out out' → Turns (IsAnswered limits rest) tells does limits past c start now x y slots out → Turns (IsOver limits) tells does limits past c start now x z slots out'
turn_last tells does limits past c start now x y z slots rest out out' consumed w t = record {
  came = t.came;
  sent = t.sent;
  steps = t.steps ++ Took c w.what ∷ [];
  told = t.told;
  run = run_more does t.steps x y z (Took c w.what) t.run w.step;
  turn =
      let P : List (Mark Exchange) → Type 0 = λ m. InTurn (IsOver limits) limits c slots out' (marks t.came) (marks t.sent) m in
      subst P (sym (marks_more past t.steps (Took c w.what)))
      (took (IsAnswered limits rest) (IsOver limits) limits c slots out out' (w.what ∷ []) (marks t.came) (marks t.sent) (past ++ step_marks t.steps) (past ++ step_marks t.steps ++ Piece c (w.what ∷ []) ∷ []) (answered_last limits rest w.rest out out' w.what w.is w.out_is w.taken w.next_is) (says_piece c (w.what ∷ []) (past ++ step_marks t.steps)) t.turn);
}

pub turn_bad : {D X : Type 0} (tells : D → D → List Packet → List Packet → Type 0) (does : X → Call → X → Type 0) (limits : Limits) (past : List (Mark Exchange)) (c : ℕ) (start now : D) (x y : X) (slots : Slots) (rest out out' : List ℕ) (at : ℕ) (fault : ParseFault) → Spoilt command (IsAdmitted limits) rest at → IsCause limits rest at fault → out' ≡ out ++ protocol_error rest at fault → Turns (IsAnswered limits rest) tells does limits past c start now x y slots out → Turns (IsOver limits) tells does limits past c start now x y slots out'
turn_bad tells does limits past c start now x y slots rest out out' at fault bad cause is t = record {
  came = t.came;
  sent = t.sent;
  steps = t.steps;
  told = t.told;
  run = t.run;
  turn = took (IsAnswered limits rest) (IsOver limits) limits c slots out out' [] (marks t.came) (marks t.sent) (past ++ step_marks t.steps) (past ++ step_marks t.steps) (answered_bad limits rest out out' at fault is bad cause) (says_nothing c (past ++ step_marks t.steps)) t.turn;
}

pub turn_shed : {D X : Type 0} (tells : D → D → List Packet → List Packet → Type 0) (does : X → Call → X → Type 0) (limits : Limits) (past : List (Mark Exchange)) (c : ℕ) (start now : D) (x y : X) (slots : Slots) (rest out : List ℕ) → 0 < length rest → Turns (IsAnswered limits rest) tells does limits past c start now x y slots out → Turns (IsOver limits) tells does limits past c start now x y slots out
turn_shed tells does limits past c start now x y slots rest out some t = record {
  came = t.came;
  sent = t.sent;
  steps = t.steps;
  told = t.told;
  run = t.run;
  turn = took (IsAnswered limits rest) (IsOver limits) limits c slots out out [] (marks t.came) (marks t.sent) (past ++ step_marks t.steps) (past ++ step_marks t.steps) (answered_shed limits rest out some) (says_nothing c (past ++ step_marks t.steps)) t.turn;
}

-- packets were sent, with a part of the replies
pub turn_wrote : {D X : Type 0} (P : List ℕ → List ℕ → List Exchange → Type 0) (tells : D → D → List Packet → List Packet → Type 0) (does : X → Call → X → Type 0) (limits : Limits) (past : List (Mark Exchange)) (c : ℕ) (start now then : D) (x y : X) (slots : Slots) (out part rest : List ℕ) → out ≡ part ++ rest → (t : Turns P tells does limits past c start now x y slots out) → (more : List Packet) → tells start then t.came more → Says c part (marks t.sent) (marks more) → Turns P tells does limits past c start then x y slots rest
turn_wrote P tells does limits past c start now then x y slots out part rest is t more told s = record {
  came = t.came;
  sent = more;
  steps = t.steps;
  told = told;
  run = t.run;
  turn = wrote P limits c slots out part rest (marks t.came) (marks t.sent) (marks more) (past ++ step_marks t.steps) is s t.turn;
}

pub turn_faulty : {D X : Type 0} (P : List ℕ → List ℕ → List Exchange → Type 0) (tells : D → D → List Packet → List Packet → Type 0) (does : X → Call → X → Type 0) (limits : Limits) (past : List (Mark Exchange)) (c : ℕ) (start now then : D) (x y : X) (slots : Slots) (out : List ℕ) → ((a b : List ℕ) (es : List Exchange) → P a b es → IsBegunBy limits a b es) → (t : Turns P tells does limits past c start now x y slots out) → tells start then t.came t.sent → Faulty tells does limits past start then x
turn_faulty P tells does limits past c start now then x y slots out tell t told = record {
  came = t.came;
  sent = t.sent;
  steps = t.steps;
  last = y;
  told = told;
  run = t.run;
  each = begun_turn P limits c slots out (marks t.came) (marks t.sent) (past ++ step_marks t.steps) tell t.turn;
}

-- the packets that were sent are the last ones
pub sends_faulty : {D X : Type 0} (P : List ℕ → List ℕ → List Exchange → Type 0) (tells : D → D → List Packet → List Packet → Type 0) (does : X → Call → X → Type 0) (limits : Limits) (past : List (Mark Exchange)) (c : ℕ) (start now then : D) (x y : X) (slots : Slots) (out rest : List ℕ) → ((a b : List ℕ) (es : List Exchange) → P a b es → IsBegunBy limits a b es) → Turns P tells does limits past c start now x y slots out → Sends tells c now then out rest → Faulty tells does limits past start then x
sends_faulty P tells does limits past c start now then x y slots out rest tell t sends =
    let s = sends start t.came t.sent t.told in
    let u = turn_wrote P tells does limits past c start now then x y slots out s.1 rest s.4 t s.0 s.2 s.3 in
    turn_faulty P tells does limits past c start then then x y slots rest tell u u.told

-- ---- packets

pub says_data : (c : ℕ) (bytes : List ℕ) (sent : List Packet) → Says c bytes (marks sent) (marks (sent ++ record { head = record { kind = Data; connection = c }; bytes = bytes } ∷ []))
says_data c bytes sent =
    let P : List (Mark ℕ) → Type 0 = λ m. Says c bytes (marks sent) m in
    subst P (sym (map-append packet_mark sent (record { head = record { kind = Data; connection = c }; bytes = bytes } ∷ []))) (says_piece c bytes (marks sent))

pub says_signal : (c : ℕ) (sent more : List Packet) → marks more ≡ marks sent ++ Else ∷ [] → Says c [] (marks sent) (marks more)
says_signal c sent more is =
    let P : List (Mark ℕ) → Type 0 = λ m. Says c [] (marks sent) m in
    subst P (sym is) (says_else c (marks sent))

pub says_none : (c : ℕ) (bytes : List ℕ) (sent : List Packet) → bytes ≡ [] → Says c bytes (marks sent) (marks sent)
says_none c bytes sent none =
    let P : List ℕ → Type 0 = λ l. Says c l (marks sent) (marks sent) in
    subst P (sym none) (says_nothing c (marks sent))

pub says_close : (c : ℕ) (sent : List Packet) → StopsAt c (marks sent) (marks (sent ++ closing c ∷ []))
says_close c sent =
    let P : List (Mark ℕ) → Type 0 = λ m. StopsAt c (marks sent) m in
    subst P (sym (map-append packet_mark sent (closing c ∷ []))) (stops_at c (marks sent))

pub ends_step : (past : List (Mark Exchange)) (c : ℕ) (steps : List Step) → StopsAt c (past ++ step_marks steps) (past ++ step_marks (steps ++ Ended c ∷ []))
ends_step past c steps =
    let P : List (Mark Exchange) → Type 0 = λ m. StopsAt c (past ++ step_marks steps) m in
    subst P (sym (marks_more past steps (Ended c))) (stops_at c (past ++ step_marks steps))

-- ---- the end of a turn

pub not_end : (next : Next) → goes_on next ≡ true → next ≢ End
not_end GoOn is = λ e. (let none : ⊥ = cc in none)
not_end WakeAll is = λ e. (let none : ⊥ = cc in none)
not_end LetIn is = λ e. (let none : ⊥ = cc in none)
not_end LetOut is = λ e. (let none : ⊥ = cc in none)
not_end End is = (let none : ⊥ = cc in absurd none)

pub is_end : (next : Next) → goes_on next ≡ false → next ≡ End
is_end GoOn is = (let none : ⊥ = cc in absurd none)
is_end WakeAll is = (let none : ⊥ = cc in absurd none)
is_end LetIn is = (let none : ⊥ = cc in absurd none)
is_end LetOut is = (let none : ⊥ = cc in absurd none)
is_end End is = refl

pub answers_faulty : {D X : Type 0} (tells : D → D → List Packet → List Packet → Type 0) (does : X → Call → X → Type 0) (limits : Limits) (past : List (Mark Exchange)) (c : ℕ) (start now then : D) (x y : X) (slots : Slots) (bytes out rest : List ℕ) (t : Turned) → Sends tells c now then out rest → AnswersSo tells does limits past c start now x y slots bytes out t → Faulty tells does limits past start then x
answers_faulty tells does limits past c start now then x y slots bytes out rest (Holds at wanted) sends h = sends_faulty (IsAnswered limits (drop at bytes)) tells does limits past c start now then x y slots out rest (begun_answered limits (drop at bytes)) h.2 sends
answers_faulty tells does limits past c start now then x y slots bytes out rest Closes sends h = sends_faulty (IsOver limits) tells does limits past c start now then x y slots out rest (begun_closed limits) h sends

-- the beginning of a request is held
pub stands_held : {D X : Type 0} (tells : D → D → List Packet → List Packet → Type 0) (does : X → Call → X → Type 0) (limits : Limits) (past : List (Mark Exchange)) (c : ℕ) (start now : D) (x y : X) (slots after : Slots) (rest : List ℕ) (wanted : ℕ) → IsBegun limits rest wanted → Turns (IsAnswered limits rest) tells does limits past c start now x y slots [] → Replaces c (Runs rest wanted) slots after → Stands tells does limits past start now x y after
stands_held tells does limits past c start now x y slots after rest wanted begun t r = record {
  came = t.came;
  sent = t.sent;
  steps = t.steps;
  told = t.told;
  run = t.run;
  stand = leave_off limits c slots after rest wanted (marks t.came) (marks t.sent) (past ++ step_marks t.steps) t.turn begun r;
}

pub begun_rest : (limits : Limits) (rest : List ℕ) (missing wanted : ℕ) → Lacks command (IsAdmitted limits) rest missing → wanted ≡ length rest + missing → length rest + missing ≤ longest limits → IsBegun limits rest wanted
begun_rest limits rest missing wanted lacks is few = record {
  begun = rest;
  more = [];
  is = sym (append-nil rest);
  missing = missing;
  lacks = lacks;
  wanted_is = is;
  bounded = omega (arith, is, few);
  few = omega (arith, lacks.some, is);
}

-- the connection is closed
pub stands_shut : {D X : Type 0} (tells : D → D → List Packet → List Packet → Type 0) (does : X → Call → X → Type 0) (limits : Limits) (past : List (Mark Exchange)) (c : ℕ) (start now then : D) (x y z : X) (slots after : Slots) → (t : Turns (IsOver limits) tells does limits past c start now x y slots []) → does y (Left c) z → tells start then t.came (t.sent ++ closing c ∷ []) → Replaces c (Closed) slots after → Stands tells does limits past start then x z after
stands_shut tells does limits past c start now then x y z slots after t left told r = record {
  came = t.came;
  sent = t.sent ++ closing c ∷ [];
  steps = t.steps ++ Ended c ∷ [];
  told = told;
  run = run_more does t.steps x y z (Ended c) t.run left;
  stand = shut limits c slots after (marks t.came) (marks t.sent) (marks (t.sent ++ closing c ∷ [])) (past ++ step_marks t.steps) (past ++ step_marks (t.steps ++ Ended c ∷ [])) t.turn (ends_step past c t.steps) (says_close c t.sent) r;
}

pub shut_faulty : {D X : Type 0} (tells : D → D → List Packet → List Packet → Type 0) (does : X → Call → X → Type 0) (limits : Limits) (past : List (Mark Exchange)) (c : ℕ) (start now then : D) (x y : X) (slots : Slots) → (t : Turns (IsOver limits) tells does limits past c start now x y slots []) → tells start then t.came (t.sent ++ closing c ∷ []) → Faulty tells does limits past start then x
shut_faulty tells does limits past c start now then x y slots t told = record {
  came = t.came;
  sent = t.sent ++ closing c ∷ [];
  steps = t.steps;
  last = y;
  told = told;
  run = t.run;
  each = begun_same limits (marks t.came) (marks t.came) (marks t.sent) (marks (t.sent ++ closing c ∷ [])) (past ++ step_marks t.steps) (past ++ step_marks t.steps) (λ d. refl) (says_close c t.sent).same (λ d. refl) (begun_turn (IsOver limits) limits c slots [] (marks t.came) (marks t.sent) (past ++ step_marks t.steps) (begun_closed limits) t.turn);
}
