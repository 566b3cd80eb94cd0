-- What the parts of a worker's loop do.
use Rattle.std.specs.Prelude.{◌≡◌, ◌≢◌, ◌⊎◌, ℕ, ◌+◌, ◌<◌, ◌≤◌, Bool, true, false, List, [], ◌∷◌, ◌++◌, length, drop}
use Rattle.resp.specs.declared.limits.Limits.{Limits}
use Rattle.resp.specs.Lines.{Lacks, Spoilt}
use Rattle.resp.specs.Requests.{command, IsAdmitted, longest}
use Rattle.resp.specs.declared.outcome.ParseFault.{ParseFault}
use Rattle.resp.specs.Parsing.{IsCause}
use Rattle.request_loop.specs.declared.service.Next.{Next}
use Rattle.request_loop.specs.declared.service.Next.TheVariants.{GoOn, WakeAll, End, LetIn, LetOut}
use Rattle.request_loop.specs.declared.one_request.Taken.{Taken}
use Rattle.request_loop.specs.declared.one_request.Taken.TheVariants.{Whole, Short, Bad, Refused}
use Rattle.request_loop.specs.declared.requests.Turned.{Turned}
use Rattle.request_loop.specs.declared.requests.Turned.TheVariants.{Holds, Closes}
use Rattle.request_loop.specs.declared.packet.Kind.{Kind}
use Rattle.request_loop.specs.declared.packet.Kind.TheVariants.{Close}
use Rattle.request_loop.specs.declared.slots.Slots.{Slots}
use Rattle.request_loop.specs.Marks.{Mark, Else, said, is_stopped, EndsOnce}
use Rattle.request_loop.specs.Calls.{Call, Exchange, request_bytes, reply_bytes, IsTaken, GoesOn, IsLast, Step, Took, step_marks, Does, Run}
use Rattle.request_loop.specs.Workers.{Packet, mark_of, marks, protocol_error, IsBegun, IsOver}
use Rattle.request_loop.specs.Served.{AreBegun}
use Rattle.request_loop.specs.Slots.{Closed, Replaces, AllStand, InTurn, IsAnswered}

-- these were said on connection c besides, and nothing on others
pub record Says {A : Type 0} (c : ℕ) (xs : List A) (old new : List (Mark A)) : Type 0 where
  pub here : said c new ≡ said c old ++ xs
  pub elsewhere : (d : ℕ) → d ≢ c → said d new ≡ said d old
  pub stops_are : (d : ℕ) → is_stopped d new ≡ is_stopped d old
  pub once : is_stopped c old ≡ false → (d : ℕ) → EndsOnce d old → EndsOnce d new

-- of what was to be sent on connection c the rest is to be sent still, and no more was sent
abbrev pub Sends : {D : Type 0} → (D → D → List Packet → List Packet → Type 0) → ℕ → D → D → List ℕ → List ℕ → Type 0
Sends {D} tells c old new out rest =
    (start : D) (came sent : List Packet) → tells start old came sent
    → (more : List Packet) × (part : List ℕ) × tells start new came more × Says c part (marks sent) (marks more) × (out ≡ part ++ rest)

-- a packet of this kind has no bytes of a connection
abbrev pub IsSignal : Kind → Type 0
IsSignal kind = (c : ℕ) (bytes : List ℕ) → mark_of kind c bytes ≡ Else

-- such a packet was sent
abbrev pub Signals : {D : Type 0} → (D → D → List Packet → List Packet → Type 0) → D → D → Type 0
Signals {D} tells old new =
    (start : D) (came sent : List Packet) → tells start old came sent
    → (more : List Packet) × tells start new came more × (marks more ≡ marks sent ++ Else ∷ [])

-- such a packet was sent, or none
abbrev pub Hints : {D : Type 0} → (D → D → List Packet → List Packet → Type 0) → D → D → Type 0
Hints tells old new = (new ≡ old) ⊎ Signals tells old new

-- all packets that came were dealt with
pub record Stands {D X : Type 0} (tells : D → D → List Packet → List Packet → Type 0) (does : X → Call → X → Type 0) (limits : Limits) (past : List (Mark Exchange)) (start now : D) (x y : X) (slots : Slots) : Type 0 where
  pub came : List Packet
  pub sent : List Packet
  pub steps : List Step
  pub told : tells start now came sent
  pub run : Run does x steps y
  pub stand : AllStand limits slots (marks came) (marks sent) (past ++ step_marks steps)

-- all but the last, whose mark this is
pub record Comes {D X : Type 0} (tells : D → D → List Packet → List Packet → Type 0) (does : X → Call → X → Type 0) (limits : Limits) (past : List (Mark Exchange)) (start now : D) (x y : X) (slots : Slots) (m : Mark ℕ) : Type 0 where
  pub came : List Packet
  pub sent : List Packet
  pub steps : List Step
  pub before : List (Mark ℕ)
  pub is : marks came ≡ before ++ m ∷ []
  pub told : tells start now came sent
  pub run : Run does x steps y
  pub stand : AllStand limits slots before (marks sent) (past ++ step_marks steps)

-- in a turn of connection c
pub record Turns {D X : Type 0} (P : List ℕ → List ℕ → List Exchange → Type 0) (tells : D → D → List Packet → List Packet → Type 0) (does : X → Call → X → Type 0) (limits : Limits) (past : List (Mark Exchange)) (c : ℕ) (start now : D) (x y : X) (slots : Slots) (out : List ℕ) : Type 0 where
  pub came : List Packet
  pub sent : List Packet
  pub steps : List Step
  pub told : tells start now came sent
  pub run : Run does x steps y
  pub turn : InTurn P limits c slots out (marks came) (marks sent) (past ++ step_marks steps)

-- whatever was done is a beginning
pub record Faulty {D X : Type 0} (tells : D → D → List Packet → List Packet → Type 0) (does : X → Call → X → Type 0) (limits : Limits) (past : List (Mark Exchange)) (start now : D) (x : X) : Type 0 where
  pub came : List Packet
  pub sent : List Packet
  pub steps : List Step
  pub last : X
  pub told : tells start now came sent
  pub run : Run does x steps last
  pub each : AreBegun limits (marks came) (marks sent) (past ++ step_marks steps)

abbrev pub NextIs : Next → Exchange → Type 0
NextIs GoOn e = GoesOn e
NextIs WakeAll e = GoesOn e
NextIs LetIn e = GoesOn e
NextIs LetOut e = GoesOn e
NextIs End e = IsLast e

-- a request at the front of bytes was taken
pub record TakesWhole {X : Type 0} (does : X → Call → X → Type 0) (limits : Limits) (c : ℕ) (x y : X) (bytes : List ℕ) (consumed : ℕ) (next : Next) (old out : List ℕ) : Type 0 where
  pub what : Exchange
  pub step : Does does x (Took c what) y
  pub taken : IsTaken limits what
  pub next_is : NextIs next what
  pub rest : List ℕ
  pub is : bytes ≡ request_bytes what ++ rest
  pub long : length (request_bytes what) ≡ consumed
  pub some : 0 < consumed
  pub within : consumed ≤ length bytes
  pub out_is : out ≡ old ++ reply_bytes what

abbrev pub Takes : {X : Type 0} → (X → Call → X → Type 0) → Limits → ℕ → X → X → List ℕ → List ℕ → List ℕ → Taken → Type 0
Takes does limits c x y bytes old out (Whole consumed next) = TakesWhole does limits c x y bytes consumed next old out
Takes does limits c x y bytes old out (Short missing) = (x ≡ y) × Lacks command (IsAdmitted limits) bytes missing × (length bytes + missing ≤ longest limits) × (out ≡ old)
Takes does limits c x y bytes old out Bad = (x ≡ y) × (at : ℕ) × (fault : ParseFault) × Spoilt command (IsAdmitted limits) bytes at × IsCause limits bytes at fault × (out ≡ old ++ protocol_error bytes at fault)
Takes does limits c x y bytes old out Refused = (x ≡ y) × (out ≡ old)

-- so far as the requests were answered: the beginning of one is left, or the connection is over
abbrev pub AnswersSo : {D X : Type 0} → (D → D → List Packet → List Packet → Type 0) → (X → Call → X → Type 0) → Limits → List (Mark Exchange) → ℕ → D → D → X → X → Slots → List ℕ → List ℕ → Turned → Type 0
AnswersSo tells does limits past c start now x y slots bytes out (Holds at wanted) = (at ≤ length bytes) × IsBegun limits (drop at bytes) wanted × Turns (IsAnswered limits (drop at bytes)) tells does limits past c start now x y slots out
AnswersSo tells does limits past c start now x y slots bytes out Closes = Turns (IsOver limits) tells does limits past c start now x y slots out

-- the same where all replies were sent, and the worker has closed the connection if it is over
abbrev pub EndsSo : {D X : Type 0} → (D → D → List Packet → List Packet → Type 0) → (X → Call → X → Type 0) → Limits → List (Mark Exchange) → ℕ → D → D → X → X → Slots → List ℕ → Turned → Type 0
EndsSo tells does limits past c start now x y slots bytes (Holds at wanted) = IsBegun limits (drop at bytes) wanted × Turns (IsAnswered limits (drop at bytes)) tells does limits past c start now x y slots []
EndsSo tells does limits past c start now x y slots bytes Closes = (after : Slots) → Replaces c Closed slots after → Stands tells does limits past start now x y after

abbrev pub goes_on : Next → Bool
goes_on GoOn = true
goes_on WakeAll = true
goes_on LetIn = true
goes_on LetOut = true
goes_on End = false

abbrev pub closing : ℕ → Packet
closing c = record { head = record { kind = Close; connection = c }; bytes = [] }

-- it holds what stands there
abbrev pub IsWithin : ℕ → Turned → Type 0
IsWithin n (Holds at wanted) = at ≤ n
IsWithin n Closes = Unit {0}
