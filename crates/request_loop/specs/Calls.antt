-- What is asked and replied, and what a service is called for.
use Rattle.std.specs.Prelude.{◌≡◌, ◌≢◌, ℕ, ◌<◌, Bool, List, [], ◌∷◌, ◌++◌, length, map}
use Rattle.std.specs.List.{AllByRecursion, flat_map}
use Rattle.resp.specs.declared.limits.Limits.{Limits}
use Rattle.resp.specs.Requests.{Command, command, arguments_of, IsAdmitted}
use Rattle.resp.specs.Replies.{Token, token}
use Rattle.request_loop.specs.declared.service.Next.{Next}
use Rattle.request_loop.specs.declared.service.Next.TheVariants.{End}
use Rattle.request_loop.specs.declared.service.Woken.{Woken}
use Rattle.request_loop.specs.Marks.{Mark, Piece, Stop, Else}

-- what a service is called for, and what it says
pub data Call : Type 0 where
  Asked : (connection : ℕ) (arguments : List (List ℕ)) (reply : List Token) (next : Next) → Call
  Left : (connection : ℕ) → Call
  Awake : (woken : Woken) → Call
  Opened : (connection : ℕ) (address : List ℕ) (let_in : Bool) → Call
  Noted : (text reply : List ℕ) → Call

-- a request with its reply, or one that asks for nothing and gets none
pub data Exchange : Type 0 where
  Answered : (what : Command) (reply : List Token) (next : Next) → Exchange
  Passed : (what : Command) → Exchange

abbrev pub request_bytes : Exchange → List ℕ
request_bytes (Answered what reply next) = command what
request_bytes (Passed what) = command what

abbrev pub reply_bytes : Exchange → List ℕ
reply_bytes (Answered what reply next) = flat_map token reply
reply_bytes (Passed what) = []

-- the bytes of the requests, and those of the replies
abbrev pub asked : List Exchange → List ℕ
asked [] = []
asked (e ∷ es) = request_bytes e ++ asked es

abbrev pub replied : List Exchange → List ℕ
replied [] = []
replied (e ∷ es) = reply_bytes e ++ replied es

-- a request within the limits; one without arguments, and no other, is passed over
abbrev pub IsTaken : Limits → Exchange → Type 0
IsTaken limits (Answered what reply next) = IsAdmitted limits what × (0 < length (arguments_of what))
IsTaken limits (Passed what) = IsAdmitted limits what × (arguments_of what ≡ [])

-- the connection goes on behind it
abbrev pub GoesOn : Exchange → Type 0
GoesOn (Answered what reply next) = next ≢ End
GoesOn (Passed what) = Unit {0}

-- the connection ends behind it
abbrev pub IsLast : Exchange → Type 0
IsLast (Answered what reply next) = next ≡ End
IsLast (Passed what) = ⊥

abbrev pub AreTaken : Limits → List Exchange → Type 0
AreTaken limits es = AllByRecursion (IsTaken limits) es

abbrev pub AllGoOn : List Exchange → Type 0
AllGoOn es = AllByRecursion GoesOn es

-- a worker takes a request, is done with a connection, is woken, or is told of a connection or by a note
pub data Step : Type 0 where
  Took : (connection : ℕ) (what : Exchange) → Step
  Ended : (connection : ℕ) → Step
  Woke : (woken : Woken) → Step
  Began : (connection : ℕ) (address : List ℕ) (let_in : Bool) → Step
  Heard : (text reply : List ℕ) → Step

abbrev pub step_mark : Step → Mark Exchange
step_mark (Took c e) = Piece c (e ∷ [])
step_mark (Ended c) = Stop c
step_mark (Woke w) = Else
step_mark (Began c address let_in) = Else
step_mark (Heard text reply) = Else

abbrev pub step_marks : List Step → List (Mark Exchange)
step_marks steps = map step_mark steps

-- what a step does to a service
abbrev pub Does : {X : Type 0} → (X → Call → X → Type 0) → X → Step → X → Type 0
Does does x (Took c (Answered what reply next)) y = does x (Asked c (arguments_of what) reply next) y
Does does x (Took c (Passed what)) y = x ≡ y
Does does x (Ended c) y = does x (Left c) y
Does does x (Woke w) y = does x (Awake w) y
Does does x (Began c address let_in) y = does x (Opened c address let_in) y
Does does x (Heard text reply) y = does x (Noted text reply) y

-- from x the steps lead to y, one after another
abbrev pub Run : {X : Type 0} → (X → Call → X → Type 0) → X → List Step → X → Type 0
Run does x [] y = x ≡ y
Run {X} does x (step ∷ steps) y = (m : X) × Does does x step m × Run does m steps y
