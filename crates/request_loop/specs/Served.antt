-- What a worker did.
use Rattle.std.specs.Prelude.{◌≡◌, ℕ, List, [], ◌++◌, ◌⊎◌}
use Rattle.resp.specs.declared.limits.Limits.{Limits}
use Rattle.resp.specs.declared.outcome.ParseFault.{ParseFault}
use Rattle.request_loop.specs.Marks.{Mark, said, is_stopped, EndsOnce}
use Rattle.request_loop.specs.Calls.{Call, Exchange, asked, replied, AreTaken, Step, step_marks, Run}
use Rattle.request_loop.specs.Workers.{Packet, marks, protocol_error, IsSettledAt}

-- The service was called for the steps, one after another. On each connection the requests that came are those of its steps,
-- in order, and what was sent are the replies to them. It was told once that a connection is over, and asked nothing of it then.
pub record Served {X : Type 0} (does : X → Call → X → Type 0) (limits : Limits) (x y : X) (came sent : List Packet) : Type 0 where
  pub steps : List Step
  pub run : Run does x steps y
  pub each : (c : ℕ) → IsSettledAt limits c (marks came) (marks sent) (said c (step_marks steps))
  pub left : (c : ℕ) → is_stopped c (step_marks steps) ≡ is_stopped c (marks sent)
  pub once : (c : ℕ) → EndsOnce c (step_marks steps)

-- a beginning of what came are the requests, and what was sent is a beginning of the replies
pub record IsBegunBy (limits : Limits) (came sent : List ℕ) (es : List Exchange) : Type 0 where
  pub rest : List ℕ
  pub is : came ≡ asked es ++ rest
  pub each : AreTaken limits es
  pub owed : List ℕ
  pub error : List ℕ
  pub error_is : (error ≡ []) ⊎ ((bytes : List ℕ) × (at : ℕ) × (fault : ParseFault) × (error ≡ protocol_error bytes at fault))
  pub sent_is : sent ++ owed ≡ replied es ++ error

abbrev pub AreBegun : Limits → List (Mark ℕ) → List (Mark ℕ) → List (Mark Exchange) → Type 0
AreBegun limits came sent steps = (c : ℕ) → IsBegunBy limits (said c came) (said c sent) (said c steps)

-- the same where a fault ended it
pub record Begun {X : Type 0} (does : X → Call → X → Type 0) (limits : Limits) (x : X) (came sent : List Packet) : Type 0 where
  pub steps : List Step
  pub last : X
  pub run : Run does x steps last
  pub each : AreBegun limits (marks came) (marks sent) (step_marks steps)
