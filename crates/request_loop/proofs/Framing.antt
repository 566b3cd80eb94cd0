-- A packet that came is dealt with.
use Rattle.std.proofs.Common.{◌≡◌, ℕ, ◌<◌, inl, inr, List, [], ◌∷◌, ◌++◌, length, refl, sym, ap, ◌∙◌, append_assoc, subst}
use Rattle.std.proofs.lemmas.List.{map-append}
use Rattle.resp.specs.declared.limits.Limits.{Limits}
use Rattle.request_loop.specs.declared.slots.Slots.{Slots}
use Rattle.request_loop.specs.Marks.{Mark, Piece, Stop, Else, said, EndsOnce}
use Rattle.request_loop.specs.Calls.{Call, Left, Exchange, Step, Ended, step_mark, step_marks, Does}
use Rattle.request_loop.specs.Workers.{Packet, packet_mark, marks, IsBegun, AreSettled}
use Rattle.request_loop.specs.Served.{AreBegun}
use Rattle.request_loop.specs.Slots.{Seen, Fresh, Runs, Closed, Gone, slot_at, Replaces, StandsAt, AllStand, IsAnswered}
use Rattle.request_loop.specs.Turns.{Says, Signals, Hints, Stands, Comes, Turns, Faulty, closing}
use Rattle.request_loop.proofs.Saying.{StopsAt, says_piece, says_else, once_else, stops_at}
use Rattle.request_loop.proofs.Standing.{SameOn, same_on, nothing_on, idle, settled_by, enter, leave_off, opens, given_up}
use Rattle.request_loop.proofs.Closing.{client_left, client_left_too, passed_over, passed_gone, stopped_gone, begun, begun_says, begun_same}
use Rattle.request_loop.proofs.Turning.{marks_more, run_more, says_close, ends_step}

pub comes_turns : {D X : Type 0} (tells : D → D → List Packet → List Packet → Type 0) (does : X → Call → X → Type 0) (limits : Limits) (past : List (Mark Exchange)) (c : ℕ) (start now : D) (x y : X) (slots : Slots) (held bytes : List ℕ) (wanted : ℕ) → slot_at slots c ≡ Runs held wanted → Comes tells does limits past start now x y slots (Piece c bytes) → Turns (IsAnswered limits (held ++ bytes)) tells does limits past c start now x y slots []
comes_turns tells does limits past c start now x y slots held bytes wanted is h =
    let P : List (Mark ℕ) → Type 0 = λ m. Says c bytes h.before m in
    record {
      came = h.came;
      sent = h.sent;
      steps = h.steps;
      told = h.told;
      run = h.run;
      turn = enter limits c slots held bytes wanted h.before (marks h.came) (marks h.sent) (past ++ step_marks h.steps) h.stand is (subst P (sym h.is) (says_piece c bytes h.before));
    }

pub comes_over : {D X : Type 0} (tells : D → D → List Packet → List Packet → Type 0) (does : X → Call → X → Type 0) (limits : Limits) (past : List (Mark Exchange)) (c : ℕ) (start now : D) (x y : X) (slots : Slots) (bytes : List ℕ) → slot_at slots c ≡ Closed → Comes tells does limits past start now x y slots (Piece c bytes) → Stands tells does limits past start now x y slots
comes_over tells does limits past c start now x y slots bytes is h =
    let P : List (Mark ℕ) → Type 0 = λ m. Says c bytes h.before m in
    record {
      came = h.came;
      sent = h.sent;
      steps = h.steps;
      told = h.told;
      run = h.run;
      stand = passed_over limits c slots bytes h.before (marks h.came) (marks h.sent) (past ++ step_marks h.steps) h.stand is (subst P (sym h.is) (says_piece c bytes h.before));
    }

begun_longer : (limits : Limits) (held bytes : List ℕ) (wanted : ℕ) → length (held ++ bytes) < wanted → IsBegun limits held wanted → IsBegun limits (held ++ bytes) wanted
begun_longer limits held bytes wanted few b = record {
  begun = b.begun;
  more = b.more ++ bytes;
  is = ap (λ l. l ++ bytes) b.is ∙ append_assoc b.begun b.more bytes;
  missing = b.missing;
  lacks = b.lacks;
  wanted_is = b.wanted_is;
  bounded = b.bounded;
  few = few;
}

-- fewer bytes came than are missing
pub comes_waits : {D X : Type 0} (tells : D → D → List Packet → List Packet → Type 0) (does : X → Call → X → Type 0) (limits : Limits) (past : List (Mark Exchange)) (c : ℕ) (start now : D) (x y : X) (slots after : Slots) (held bytes : List ℕ) (wanted : ℕ) → slot_at slots c ≡ Runs held wanted → length (held ++ bytes) < wanted → Replaces c (Runs (held ++ bytes) wanted) slots after → Comes tells does limits past start now x y slots (Piece c bytes) → Stands tells does limits past start now x y after
comes_waits tells does limits past c start now x y slots after held bytes wanted is few r h =
    let P : Seen → Type 0 = λ s. StandsAt limits c h.before (marks h.sent) (past ++ step_marks h.steps) s in
    let was : StandsAt limits c h.before (marks h.sent) (past ++ step_marks h.steps) (Runs held wanted) = subst P is (h.stand.now c) in
    let t = comes_turns tells does limits past c start now x y slots held bytes wanted is h in
    record {
      came = t.came;
      sent = t.sent;
      steps = t.steps;
      told = t.told;
      run = t.run;
      stand = leave_off limits c slots after (held ++ bytes) wanted (marks t.came) (marks t.sent) (past ++ step_marks t.steps) t.turn (begun_longer limits held bytes wanted few was.3.begun) r;
    }

-- the client closes, and so does the worker
pub comes_closed : {D X : Type 0} (tells : D → D → List Packet → List Packet → Type 0) (does : X → Call → X → Type 0) (limits : Limits) (past : List (Mark Exchange)) (c : ℕ) (start now then : D) (x y z : X) (slots after : Slots) (held : List ℕ) (wanted : ℕ) → slot_at slots c ≡ Runs held wanted → does y (Left c) z → (h : Comes tells does limits past start now x y slots (Stop c)) → tells start then h.came (h.sent ++ closing c ∷ []) → Replaces c (Gone) slots after → Stands tells does limits past start then x z after
comes_closed tells does limits past c start now then x y z slots after held wanted is left h told r =
    let P : List (Mark ℕ) → Type 0 = λ m. StopsAt c h.before m in
    record {
      came = h.came;
      sent = h.sent ++ closing c ∷ [];
      steps = h.steps ++ Ended c ∷ [];
      told = told;
      run = run_more does h.steps x y z (Ended c) h.run left;
      stand = client_left limits c slots after held wanted h.before (marks h.came) (marks h.sent) (marks (h.sent ++ closing c ∷ [])) (past ++ step_marks h.steps) (past ++ step_marks (h.steps ++ Ended c ∷ [])) h.stand is (subst P (sym h.is) (stops_at c h.before)) (ends_step past c h.steps) (says_close c h.sent) r;
    }

-- the client closes behind the worker
pub comes_closed_too : {D X : Type 0} (tells : D → D → List Packet → List Packet → Type 0) (does : X → Call → X → Type 0) (limits : Limits) (past : List (Mark Exchange)) (c : ℕ) (start now : D) (x y : X) (slots after : Slots) → slot_at slots c ≡ Closed → Comes tells does limits past start now x y slots (Stop c) → Replaces c (Gone) slots after → Stands tells does limits past start now x y after
comes_closed_too tells does limits past c start now x y slots after is h r =
    let P : List (Mark ℕ) → Type 0 = λ m. StopsAt c h.before m in
    record {
      came = h.came;
      sent = h.sent;
      steps = h.steps;
      told = h.told;
      run = h.run;
      stand = client_left_too limits c slots after h.before (marks h.came) (marks h.sent) (past ++ step_marks h.steps) h.stand is (subst P (sym h.is) (stops_at c h.before)) r;
    }

-- bytes, or a close, of a connection that is gone
pub comes_gone : {D X : Type 0} (tells : D → D → List Packet → List Packet → Type 0) (does : X → Call → X → Type 0) (limits : Limits) (past : List (Mark Exchange)) (c : ℕ) (start now : D) (x y : X) (slots : Slots) (bytes : List ℕ) → slot_at slots c ≡ Gone → Comes tells does limits past start now x y slots (Piece c bytes) → Stands tells does limits past start now x y slots
comes_gone tells does limits past c start now x y slots bytes is h =
    let P : List (Mark ℕ) → Type 0 = λ m. Says c bytes h.before m in
    record {
      came = h.came;
      sent = h.sent;
      steps = h.steps;
      told = h.told;
      run = h.run;
      stand = passed_gone limits c slots bytes h.before (marks h.came) (marks h.sent) (past ++ step_marks h.steps) h.stand is (subst P (sym h.is) (says_piece c bytes h.before));
    }

pub comes_closed_gone : {D X : Type 0} (tells : D → D → List Packet → List Packet → Type 0) (does : X → Call → X → Type 0) (limits : Limits) (past : List (Mark Exchange)) (c : ℕ) (start now : D) (x y : X) (slots : Slots) → slot_at slots c ≡ Gone → Comes tells does limits past start now x y slots (Stop c) → Stands tells does limits past start now x y slots
comes_closed_gone tells does limits past c start now x y slots is h =
    let P : List (Mark ℕ) → Type 0 = λ m. StopsAt c h.before m in
    record {
      came = h.came;
      sent = h.sent;
      steps = h.steps;
      told = h.told;
      run = h.run;
      stand = stopped_gone limits c slots h.before (marks h.came) (marks h.sent) (past ++ step_marks h.steps) h.stand is (subst P (sym h.is) (stops_at c h.before));
    }

-- a packet that says nothing of a connection
pub comes_idle : {D X : Type 0} (tells : D → D → List Packet → List Packet → Type 0) (does : X → Call → X → Type 0) (limits : Limits) (past : List (Mark Exchange)) (start now : D) (x y : X) (slots : Slots) → Comes tells does limits past start now x y slots Else → Stands tells does limits past start now x y slots
comes_idle tells does limits past start now x y slots h =
    let P : ℕ → List (Mark ℕ) → Type 0 = λ d m. SameOn d h.before m in
    let steps = past ++ step_marks h.steps in
    record {
      came = h.came;
      sent = h.sent;
      steps = h.steps;
      told = h.told;
      run = h.run;
      stand = idle limits slots h.before (marks h.came) (marks h.sent) (marks h.sent) steps steps (λ d. subst (P d) (sym h.is) (nothing_on d h.before)) (λ d. same_on d (marks h.sent)) (λ d. same_on d steps) (λ d o. o) (λ d o. o) h.stand;
    }

-- a connection begins
pub stands_opened : {D X : Type 0} (tells : D → D → List Packet → List Packet → Type 0) (does : X → Call → X → Type 0) (limits : Limits) (past : List (Mark Exchange)) (c : ℕ) (start now : D) (x y : X) (slots after : Slots) → slot_at slots c ≡ Fresh → Replaces c (Runs [] 1) slots after → Stands tells does limits past start now x y slots → Stands tells does limits past start now x y after
stands_opened tells does limits past c start now x y slots after is r t = record {
  came = t.came;
  sent = t.sent;
  steps = t.steps;
  told = t.told;
  run = t.run;
  stand = opens limits c slots after (marks t.came) (marks t.sent) (past ++ step_marks t.steps) t.stand is r;
}

-- the worker gives up a connection that begins
pub stands_given_up : {D X : Type 0} (tells : D → D → List Packet → List Packet → Type 0) (does : X → Call → X → Type 0) (limits : Limits) (past : List (Mark Exchange)) (c : ℕ) (start now then : D) (x y z : X) (slots after : Slots) → slot_at slots c ≡ Fresh → does y (Left c) z → Replaces c Gone slots after → (t : Stands tells does limits past start now x y slots) → tells start then t.came (t.sent ++ closing c ∷ []) → Stands tells does limits past start then x z after
stands_given_up tells does limits past c start now then x y z slots after is left r t told = record {
  came = t.came;
  sent = t.sent ++ closing c ∷ [];
  steps = t.steps ++ Ended c ∷ [];
  told = told;
  run = run_more does t.steps x y z (Ended c) t.run left;
  stand = given_up limits c slots after (marks t.came) (marks t.sent) (marks (t.sent ++ closing c ∷ [])) (past ++ step_marks t.steps) (past ++ step_marks (t.steps ++ Ended c ∷ [])) t.stand is (ends_step past c t.steps) (says_close c t.sent) r;
}

-- a call that is of no connection's requests
pub comes_called : {D X : Type 0} (tells : D → D → List Packet → List Packet → Type 0) (does : X → Call → X → Type 0) (limits : Limits) (past : List (Mark Exchange)) (start now : D) (x y z : X) (slots : Slots) (step : Step) → step_mark step ≡ Else → Does does y step z → Comes tells does limits past start now x y slots Else → Stands tells does limits past start now x z slots
comes_called tells does limits past start now x y z slots step is called h =
    let t = comes_idle tells does limits past start now x y slots h in
    let old = past ++ step_marks t.steps in
    let new = past ++ step_marks (t.steps ++ step ∷ []) in
    let more : new ≡ old ++ Else ∷ [] = marks_more past t.steps step ∙ ap (λ m. old ++ m ∷ []) is in
    let P : ℕ → List (Mark Exchange) → Type 0 = λ d m. SameOn d old m in
    let Q : ℕ → List (Mark Exchange) → Type 0 = λ d m. EndsOnce d m in
    record {
      came = t.came;
      sent = t.sent;
      steps = t.steps ++ step ∷ [];
      told = t.told;
      run = run_more does t.steps x y z step t.run called;
      stand = idle limits slots (marks t.came) (marks t.came) (marks t.sent) (marks t.sent) old new (λ d. same_on d (marks t.came)) (λ d. same_on d (marks t.sent)) (λ d. subst (P d) (sym more) (nothing_on d old)) (λ d o. o) (λ d o. subst (Q d) (sym more) (once_else d old o)) t.stand;
    }

-- a packet without bytes of a connection was sent
pub stands_signalled : {D X : Type 0} (tells : D → D → List Packet → List Packet → Type 0) (does : X → Call → X → Type 0) (limits : Limits) (past : List (Mark Exchange)) (start now then : D) (x y : X) (slots : Slots) → Signals tells now then → Stands tells does limits past start now x y slots → Stands tells does limits past start then x y slots
stands_signalled tells does limits past start now then x y slots signals t =
    let s = signals start t.came t.sent t.told in
    let steps = past ++ step_marks t.steps in
    let P : ℕ → List (Mark ℕ) → Type 0 = λ d m. SameOn d (marks t.sent) m in
    let Q : ℕ → List (Mark ℕ) → Type 0 = λ d m. EndsOnce d m in
    record {
      came = t.came;
      sent = s.0;
      steps = t.steps;
      told = s.1;
      run = t.run;
      stand = idle limits slots (marks t.came) (marks t.came) (marks t.sent) (marks s.0) steps steps (λ d. same_on d (marks t.came)) (λ d. subst (P d) (sym s.2) (nothing_on d (marks t.sent))) (λ d. same_on d steps) (λ d o. subst (Q d) (sym s.2) (once_else d (marks t.sent) o)) (λ d o. o) t.stand;
    }

-- such a packet was sent, or none
pub stands_hinted : {D X : Type 0} (tells : D → D → List Packet → List Packet → Type 0) (does : X → Call → X → Type 0) (limits : Limits) (past : List (Mark Exchange)) (start now then : D) (x y : X) (slots : Slots) → Hints tells now then → Stands tells does limits past start now x y slots → Stands tells does limits past start then x y slots
stands_hinted {D} {X} tells does limits past start now then x y slots hints t =
    let P : D → Type 0 = λ d. Stands tells does limits past start d x y slots in
    elim hints [
      | inl e ↦ subst P (sym e) t
      | inr signals ↦ stands_signalled tells does limits past start now then x y slots signals t
    ]

-- ---- faults

-- nothing more was sent
pub faulty_kept : {D X : Type 0} (tells : D → D → List Packet → List Packet → Type 0) (does : X → Call → X → Type 0) (limits : Limits) (past : List (Mark Exchange)) (start now then : D) (x : X) → ((came sent : List Packet) → tells start now came sent → tells start then came sent) → Faulty tells does limits past start now x → Faulty tells does limits past start then x
faulty_kept tells does limits past start now then x kept f = record { came = f.came; sent = f.sent; steps = f.steps; last = f.last; told = kept f.came f.sent f.told; run = f.run; each = f.each }

-- a packet without bytes of a connection was sent, or none
pub faulty_hinted : {D X : Type 0} (tells : D → D → List Packet → List Packet → Type 0) (does : X → Call → X → Type 0) (limits : Limits) (past : List (Mark Exchange)) (start now then : D) (x : X) → Hints tells now then → Faulty tells does limits past start now x → Faulty tells does limits past start then x
faulty_hinted {D} {X} tells does limits past start now then x hints f =
    let P : D → Type 0 = λ d. Faulty tells does limits past start d x in
    elim hints [
      | inl e ↦ subst P (sym e) f
      | inr signals ↦ (
          let s = signals start f.came f.sent f.told in
          let steps = past ++ step_marks f.steps in
          let same : (d : ℕ) → said d (marks s.0) ≡ said d (marks f.sent) = λ d. ap (λ (m : List (Mark ℕ)). said d m) s.2 ∙ (nothing_on d (marks f.sent)).said_is in
          record {
            came = f.came;
            sent = s.0;
            steps = f.steps;
            last = f.last;
            told = s.1;
            run = f.run;
            each = begun_same limits (marks f.came) (marks f.came) (marks f.sent) (marks s.0) steps steps (λ d. refl) same (λ d. refl) f.each;
          })
    ]

begun_mark : (limits : Limits) (m : Mark ℕ) (before sent : List (Mark ℕ)) (steps : List (Mark Exchange)) → AreBegun limits before sent steps → AreBegun limits (before ++ m ∷ []) sent steps
begun_mark limits (Piece c xs) before sent steps b = begun_says limits c xs before (before ++ Piece c xs ∷ []) sent steps (says_piece c xs before) b
begun_mark limits (Stop c) before sent steps b = begun_same limits before (before ++ Stop c ∷ []) sent sent steps steps (stops_at c before).same (λ d. refl) (λ d. refl) b
begun_mark limits Else before sent steps b = begun_says limits 0 [] before (before ++ Else ∷ []) sent steps (says_else 0 before) b

comes_begun : {D X : Type 0} (tells : D → D → List Packet → List Packet → Type 0) (does : X → Call → X → Type 0) (limits : Limits) (past : List (Mark Exchange)) (start now : D) (x y : X) (slots : Slots) (m : Mark ℕ) → (h : Comes tells does limits past start now x y slots m) → AreBegun limits (marks h.came) (marks h.sent) (past ++ step_marks h.steps)
comes_begun tells does limits past start now x y slots m h =
    let P : List (Mark ℕ) → Type 0 = λ l. AreBegun limits l (marks h.sent) (past ++ step_marks h.steps) in
    subst P (sym h.is) (begun_mark limits m h.before (marks h.sent) (past ++ step_marks h.steps) (begun limits slots h.before (marks h.sent) (past ++ step_marks h.steps) h.stand))

pub comes_faulty : {D X : Type 0} (tells : D → D → List Packet → List Packet → Type 0) (does : X → Call → X → Type 0) (limits : Limits) (past : List (Mark Exchange)) (start now then : D) (x y : X) (slots : Slots) (m : Mark ℕ) → ((came sent : List Packet) → tells start now came sent → tells start then came sent) → Comes tells does limits past start now x y slots m → Faulty tells does limits past start then x
comes_faulty tells does limits past start now then x y slots m kept h = record {
  came = h.came;
  sent = h.sent;
  steps = h.steps;
  last = y;
  told = kept h.came h.sent h.told;
  run = h.run;
  each = comes_begun tells does limits past start now x y slots m h;
}

pub stands_faulty : {D X : Type 0} (tells : D → D → List Packet → List Packet → Type 0) (does : X → Call → X → Type 0) (limits : Limits) (past : List (Mark Exchange)) (start now then : D) (x y : X) (slots : Slots) → ((came sent : List Packet) → tells start now came sent → tells start then came sent) → Stands tells does limits past start now x y slots → Faulty tells does limits past start then x
stands_faulty tells does limits past start now then x y slots kept h = record {
  came = h.came;
  sent = h.sent;
  steps = h.steps;
  last = y;
  told = kept h.came h.sent h.told;
  run = h.run;
  each = begun limits slots (marks h.came) (marks h.sent) (past ++ step_marks h.steps) h.stand;
}

pub closed_faulty : {D X : Type 0} (tells : D → D → List Packet → List Packet → Type 0) (does : X → Call → X → Type 0) (limits : Limits) (past : List (Mark Exchange)) (c : ℕ) (start now then : D) (x y : X) (slots : Slots) (m : Mark ℕ) → ((came sent : List Packet) → tells start now came sent → tells start then came (sent ++ closing c ∷ [])) → Comes tells does limits past start now x y slots m → Faulty tells does limits past start then x
closed_faulty tells does limits past c start now then x y slots m sends h = record {
  came = h.came;
  sent = h.sent ++ closing c ∷ [];
  steps = h.steps;
  last = y;
  told = sends h.came h.sent h.told;
  run = h.run;
  each = begun_same limits (marks h.came) (marks h.came) (marks h.sent) (marks (h.sent ++ closing c ∷ [])) (past ++ step_marks h.steps) (past ++ step_marks h.steps) (λ d. refl) (says_close c h.sent).same (λ d. refl) (comes_begun tells does limits past start now x y slots m h);
}

-- ---- the whole run

pub settled : (limits : Limits) (slots : Slots) (came sent : List Packet) (said : List (Mark Exchange)) → AllStand limits slots (marks came) (marks sent) said → AreSettled limits came sent
settled limits slots came sent said h c = (_, (settled_by limits _ _ _ _ _ _ (slot_at slots c) (h.now c), h.once_sent c))

-- a packet more came
pub made_comes : {D X : Type 0} (tells : D → D → List Packet → List Packet → Type 0) (does : X → Call → X → Type 0) (limits : Limits) (past : List (Mark Exchange)) (start now then : D) (x y : X) (slots : Slots) (f : Packet) → (s : Stands tells does limits past start now x y slots) → tells start then (s.came ++ f ∷ []) s.sent → Comes tells does limits past start then x y slots (packet_mark f)
made_comes tells does limits past start now then x y slots f s told = record {
  came = s.came ++ f ∷ [];
  sent = s.sent;
  steps = s.steps;
  before = marks s.came;
  is = map-append packet_mark s.came (f ∷ []);
  told = told;
  run = s.run;
  stand = s.stand;
}
