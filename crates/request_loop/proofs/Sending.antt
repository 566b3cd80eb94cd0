-- Replies that are sent in pieces.
use Rattle.std.proofs.Common.{◌≡◌, ◌≢◌, ℕ, ◌+◌, inl, inr, ◌⊎◌, List, [], ◌∷◌, ◌++◌, take, drop, refl, sym, ap, ◌∙◌, append_assoc, take-append-drop, subst}
use Rattle.std.proofs.lemmas.List.{drop-drop}
use Rattle.resp.specs.declared.limits.Limits.{Limits}
use Rattle.request_loop.specs.declared.packet.Kind.TheVariants.{Data}
use Rattle.request_loop.specs.declared.service.Next.{Next}
use Rattle.request_loop.specs.declared.service.Next.TheVariants.{GoOn, WakeAll, End, LetIn, LetOut}
use Rattle.request_loop.specs.declared.slots.Slots.{Slots}
use Rattle.request_loop.specs.Marks.{Mark, said}
use Rattle.request_loop.specs.Calls.{Call, Exchange}
use Rattle.request_loop.specs.Workers.{Packet, marks, IsOver}
use Rattle.request_loop.specs.Slots.{IsAnswered}
use Rattle.request_loop.specs.Turns.{Says, Sends, Signals, Turns, Faulty, TakesWhole}
use Rattle.request_loop.proofs.Saying.{says_nothing}
use Rattle.request_loop.proofs.Closing.{begun_answered, begun_closed}
use Rattle.request_loop.proofs.Turning.{says_data, says_signal, sends_faulty, turn_more, turn_last}

-- one piece behind another
says_more : {A : Type 0} (c : ℕ) (xs ys : List A) (old mid new : List (Mark A)) → Says c xs old mid → Says c ys mid new → Says c (xs ++ ys) old new
says_more {A} c xs ys old mid new s t = record {
  here = t.here ∙ (ap (λ l. l ++ ys) s.here ∙ append_assoc (said c old) xs ys);
  elsewhere = λ d other. t.elsewhere d other ∙ s.elsewhere d other;
  stops_are = λ d. t.stops_are d ∙ s.stops_are d;
  once = λ running d o. t.once (s.stops_are c ∙ running) d (s.once running d o);
}

pub sends_none : {D : Type 0} (tells : D → D → List Packet → List Packet → Type 0) (c : ℕ) (d : D) (out : List ℕ) → Sends tells c d d out out
sends_none tells c d out = λ start came sent told. (sent, [], told, says_nothing c (marks sent), refl)

pub sends_more : {D : Type 0} (tells : D → D → List Packet → List Packet → Type 0) (c : ℕ) (a b d : D) (out mid rest : List ℕ) → Sends tells c a b out mid → Sends tells c b d mid rest → Sends tells c a d out rest
sends_more tells c a b d out mid rest f g = λ start came sent told.
    let s = f start came sent told in
    let t = g start came s.0 s.2 in (
      t.0,
      s.1 ++ t.1,
      t.2,
      says_more c s.1 t.1 (marks sent) (marks s.0) (marks t.0) s.3 t.3,
      s.4 ∙ (ap (λ l. s.1 ++ l) t.4 ∙ sym (append_assoc s.1 t.1 rest)),
    )

-- a packet of data is a piece
pub sends_piece : {D : Type 0} (tells : D → D → List Packet → List Packet → Type 0) (c : ℕ) (a b : D) (bytes piece : List ℕ) (at n : ℕ) → piece ≡ take n (drop at bytes) → ((start : D) (came sent : List Packet) → tells start a came sent → tells start b came (sent ++ record { head = record { kind = Data; connection = c }; bytes = piece } ∷ [])) → Sends tells c a b (drop at bytes) (drop (at + n) bytes)
sends_piece tells c a b bytes piece at n is wrote = λ start came sent told. (
  sent ++ record { head = record { kind = Data; connection = c }; bytes = piece } ∷ [],
  piece,
  wrote start came sent told,
  says_data c piece sent,
  sym (take-append-drop n (drop at bytes)) ∙ (ap (λ l. l ++ drop n (drop at bytes)) (sym is) ∙ ap (λ l. piece ++ l) (drop-drop n at bytes)),
)

-- a signal is no piece
pub sends_signal : {D : Type 0} (tells : D → D → List Packet → List Packet → Type 0) (c : ℕ) (a b : D) (out : List ℕ) → Signals tells a b → Sends tells c a b out out
sends_signal tells c a b out signals = λ start came sent told.
    let s = signals start came sent told in
    (s.0, [], s.1, says_signal c sent s.0 s.2, refl)

pub sends_kept : {D : Type 0} (tells : D → D → List Packet → List Packet → Type 0) (c : ℕ) (a b : D) (out : List ℕ) → ((start : D) (came sent : List Packet) → tells start a came sent → tells start b came sent) → Sends tells c a b out out
sends_kept tells c a b out kept = λ start came sent told. (sent, [], kept start came sent told, says_nothing c (marks sent), refl)

ends_or : (next : Next) → (next ≢ End) ⊎ (next ≡ End)
ends_or GoOn = inl (λ e. (let none : ⊥ = cc in none))
ends_or WakeAll = inl (λ e. (let none : ⊥ = cc in none))
ends_or LetIn = inl (λ e. (let none : ⊥ = cc in none))
ends_or LetOut = inl (λ e. (let none : ⊥ = cc in none))
ends_or End = inr refl

-- a request was taken, and then not all replies could be sent
pub whole_faulty : {D X : Type 0} (tells : D → D → List Packet → List Packet → Type 0) (does : X → Call → X → Type 0) (limits : Limits) (past : List (Mark Exchange)) (c : ℕ) (start now then : D) (x y z : X) (slots : Slots) (bytes out out' rest : List ℕ) (at consumed : ℕ) (next : Next) → TakesWhole does limits c y z (drop at bytes) consumed next out out' → Turns (IsAnswered limits (drop at bytes)) tells does limits past c start now x y slots out → Sends tells c now then out' rest → Faulty tells does limits past start then x
whole_faulty tells does limits past c start now then x y z slots bytes out out' rest at consumed next w t sends =
    elim (ends_or next) [
      | inl goes ↦ (
          let u = turn_more tells does limits past c start now x y z slots bytes out out' at consumed next goes w t in
          sends_faulty (IsAnswered limits (drop (at + consumed) bytes)) tells does limits past c start now then x z slots out' rest (begun_answered limits (drop (at + consumed) bytes)) u sends)
      | inr is ↦ (
          let W : Next → Type 0 = λ e. TakesWhole does limits c y z (drop at bytes) consumed e out out' in
          let u = turn_last tells does limits past c start now x y z slots (drop at bytes) out out' consumed (subst W is w) t in
          sends_faulty (IsOver limits) tells does limits past c start now then x z slots out' rest (begun_closed limits) u sends)
    ]
