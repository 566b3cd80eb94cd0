-- A service goes on where an earlier one left.
use Rattle.std.proofs.Common.{◌≡◌, ℕ, List, [], ◌∷◌, ◌++◌, Option, Some, None, refl, sym, append-nil, subst}
use Rattle.std.specs.Prelude.{MatchOption}
use Rattle.resp.specs.declared.limits.Limits.{Limits}
use Rattle.request_loop.specs.declared.slots.Slots.{Slots}
use Rattle.request_loop.specs.declared.packet.Head.{Head}
use Rattle.request_loop.specs.Marks.{Mark}
use Rattle.request_loop.specs.Calls.{Call, Exchange, step_marks}
use Rattle.request_loop.specs.Workers.{Packet, mark_of, marks}
use Rattle.request_loop.specs.Served.{Served, Begun}
use Rattle.request_loop.specs.Slots.{Seen, Views, none_seen, views_of, seen_in, StandsAt, AllStand}
use Rattle.request_loop.specs.Standing.{Standing, Settled, GoesOnBy}
use Rattle.request_loop.specs.Turns.{Stands, Comes, Faulty}
use Rattle.request_loop.proofs.Closing.{begun_stands, free_stands}
use Rattle.request_loop.proofs.Seeing.{none_at}
use Rattle.request_loop.proofs.Standing.{settled_by, left_by}
use Rattle.request_loop.proofs.Framing.{made_comes}

-- where nothing came yet, and nothing is held
pub begins : {D : Type 0} (tells : D → D → List Packet → List Packet → Type 0) (limits : Limits) (start : D) → tells start start [] [] → Standing tells limits start start none_seen []
begins tells limits start told = record {
  came = [];
  sent = [];
  told = told;
  stands = λ c. (let P : Seen → Type 0 = λ s. StandsAt limits c [] [] [] s in subst P (sym (none_at c)) (free_stands limits c));
  once_sent = λ c. tt;
  once = λ c. tt;
}

-- no step was done yet
pub resumes : {D X : Type 0} (tells : D → D → List Packet → List Packet → Type 0) (does : X → Call → X → Type 0) (limits : Limits) (past : List (Mark Exchange)) (start now : D) (x : X) (slots : Slots) → Standing tells limits start now (views_of slots) past → Stands tells does limits past start now x x slots
resumes tells does limits past start now x slots s =
    let P : List (Mark Exchange) → Type 0 = λ m. AllStand limits slots (marks s.came) (marks s.sent) m in
    record {
      came = s.came;
      sent = s.sent;
      steps = [];
      told = s.told;
      run = refl;
      stand = subst P (sym (append-nil past)) (record { now = s.stands; once_sent = s.once_sent; once_steps = s.once });
    }

-- ---- as a worker goes on

-- what is told of a read
abbrev pub Came : {D : Type 0} → (D → D → List Packet → List Packet → Type 0) → D → D → List ℕ → Option Head → Type 0
Came {D} tells now then room r =
    MatchOption r ((start : D) (came sent : List Packet) → tells start now came sent → tells start then came sent)
    (λ h. (start : D) (came sent : List Packet) → tells start now came sent → tells start then (came ++ record { head = h; bytes = room } ∷ []) sent)

pub nothing_came : {D : Type 0} (tells : D → D → List Packet → List Packet → Type 0) (now then : D) (room : List ℕ) (r : Option Head) → r ≡ None → Came tells now then room r → (start : D) (came sent : List Packet) → tells start now came sent → tells start then came sent
nothing_came tells now then room r is told =
    let P : Option Head → Type 0 = λ o. Came tells now then room o in
    subst P is told

pub packet_came : {D X : Type 0} (tells : D → D → List Packet → List Packet → Type 0) (does : X → Call → X → Type 0) (limits : Limits) (past : List (Mark Exchange)) (start now then : D) (x y : X) (slots : Slots) (room bytes : List ℕ) (r : Option Head) (h : Head) → r ≡ Some h → bytes ≡ room → Came tells now then room r → Stands tells does limits past start now x y slots → Comes tells does limits past start then x y slots (mark_of h.kind h.connection bytes)
packet_came {D} {X} tells does limits past start now then x y slots room bytes r h is same told s =
    let P : Option Head → Type 0 = λ o. Came tells now then room o in
    let Q : List ℕ → Type 0 = λ l. Comes tells does limits past start then x y slots (mark_of h.kind h.connection l) in
    let more : (start : D) (came sent : List Packet) → tells start now came sent → tells start then (came ++ record { head = h; bytes = room } ∷ []) sent = subst P is told in
    subst Q (sym same) (made_comes tells does limits past start now then x y slots (record { head = h; bytes = room }) s (more start s.came s.sent s.told))

-- as far as the steps went
pub went_on : {D X : Type 0} (tells : D → D → List Packet → List Packet → Type 0) (does : X → Call → X → Type 0) (limits then : Limits) (old now last : D) (x y : X) (before : Views) (slots : Slots) → then ≡ limits → ((start : D) (came sent : List Packet) → tells start now came sent → tells start last came sent) → ((start : D) (past : List (Mark Exchange)) → Standing tells limits start old before past → Stands tells does limits past start now x y slots) → GoesOnBy tells does then old last x y before (views_of slots)
went_on tells does limits then old now last x y before slots is kept goes =
    let P : Limits → Type 0 = λ l. GoesOnBy tells does l old last x y before (views_of slots) in
    subst P (sym is) (λ start past h.
    let s = goes start past h in (
      s.steps,
      s.run,
      record { came = s.came; sent = s.sent; told = kept start s.came s.sent s.told; stands = s.stand.now; once_sent = s.stand.once_sent; once = s.stand.once_steps },
    ))

-- a fault ends it
pub fails_on : {D X : Type 0} (tells : D → D → List Packet → List Packet → Type 0) (does : X → Call → X → Type 0) (limits then : Limits) (old last : D) (x : X) (before : Views) → then ≡ limits → ((start : D) (past : List (Mark Exchange)) → Standing tells limits start old before past → Faulty tells does limits past start last x) → (start : D) (past : List (Mark Exchange)) → Standing tells then start old before past → Faulty tells does then past start last x
fails_on {D} {X} tells does limits then old last x before is goes =
    let P : Limits → Type 0 = λ l. (start : D) (past : List (Mark Exchange)) → Standing tells l start old before past → Faulty tells does l past start last x in
    subst P (sym is) goes

-- what was said is the same where all of it has been handed on
pub sent_on : {D X : Type 0} (tells : D → D → List Packet → List Packet → Type 0) (does : X → Call → X → Type 0) (limits : Limits) (old now last : D) (x y : X) (before after : Views) → ((start : D) (came sent : List Packet) → tells start now came sent → tells start last came sent) → GoesOnBy tells does limits old now x y before after → GoesOnBy tells does limits old last x y before after
sent_on tells does limits old now last x y before after kept goes start past h =
    let g = goes start past h in
    (g.0, g.1, record { came = g.2.came; sent = g.2.sent; told = kept start g.2.came g.2.sent g.2.told; stands = g.2.stands; once_sent = g.2.once_sent; once = g.2.once })

-- what was to be handed on was not
pub unsent : {D X : Type 0} (tells : D → D → List Packet → List Packet → Type 0) (does : X → Call → X → Type 0) (limits : Limits) (old now last : D) (x y : X) (before after : Views) → ((start : D) (came sent : List Packet) → tells start now came sent → tells start last came sent) → GoesOnBy tells does limits old now x y before after → (start : D) (past : List (Mark Exchange)) → Standing tells limits start old before past → Faulty tells does limits past start last x
unsent tells does limits old now last x y before after kept goes start past h =
    let g = goes start past h in
    record {
      came = g.2.came;
      sent = g.2.sent;
      steps = g.0;
      last = y;
      told = kept start g.2.came g.2.sent g.2.told;
      run = g.1;
      each = λ c. begun_stands limits c (marks g.2.came) (marks g.2.sent) (past ++ step_marks g.0) (seen_in after c) (g.2.stands c);
    }

pub still_faulty : {D X : Type 0} (tells : D → D → List Packet → List Packet → Type 0) (does : X → Call → X → Type 0) (limits : Limits) (past : List (Mark Exchange)) (start now last : D) (x : X) → ((came sent : List Packet) → tells start now came sent → tells start last came sent) → Faulty tells does limits past start now x → Faulty tells does limits past start last x
still_faulty tells does limits past start now last x kept f = record { came = f.came; sent = f.sent; steps = f.steps; last = f.last; told = kept f.came f.sent f.told; run = f.run; each = f.each }

-- where a worker stands no reply is owed
pub settles : {D : Type 0} (tells : D → D → List Packet → List Packet → Type 0) (limits : Limits) (start now : D) (views : Views) (past : List (Mark Exchange)) → Standing tells limits start now views past → Settled tells limits start now past
settles tells limits start now views past s = record {
  came = s.came;
  sent = s.sent;
  told = s.told;
  each = λ c. (settled_by limits _ _ _ _ _ _ (seen_in views c) (s.stands c), s.once_sent c);
  left = λ c. left_by limits _ _ _ _ _ _ (seen_in views c) (s.stands c);
  once = s.once;
}

-- one service from the first packet on
pub served : {D X : Type 0} (tells : D → D → List Packet → List Packet → Type 0) (does : X → Call → X → Type 0) (limits : Limits) (start now : D) (x y : X) (views : Views) → tells start start [] [] → GoesOnBy tells does limits start now x y none_seen views → (came : List Packet) × (sent : List Packet) × tells start now came sent × Served does limits x y came sent
served tells does limits start now x y views told goes =
    let g = goes start [] (begins tells limits start told) in
    let s = settles tells limits start now views (step_marks g.0) g.2 in
    (s.came, s.sent, s.told, record { steps = g.0; run = g.1; each = s.each; left = s.left; once = s.once })

pub faulty : {D X : Type 0} (tells : D → D → List Packet → List Packet → Type 0) (does : X → Call → X → Type 0) (limits : Limits) (start now : D) (x : X) → Faulty tells does limits [] start now x → (came : List Packet) × (sent : List Packet) × tells start now came sent × Begun does limits x came sent
faulty tells does limits start now x f = (f.came, f.sent, f.told, record { steps = f.steps; last = f.last; run = f.run; each = f.each })
