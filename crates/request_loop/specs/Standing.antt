-- Where a worker stands that services serve one after another, each from where the one before it left.
use Rattle.std.specs.Prelude.{◌≡◌, ℕ, List, ◌++◌}
use Rattle.resp.specs.declared.limits.Limits.{Limits}
use Rattle.request_loop.specs.Marks.{Mark, said, is_stopped, EndsOnce}
use Rattle.request_loop.specs.Calls.{Call, Exchange, Step, step_marks, Run}
use Rattle.request_loop.specs.Workers.{Packet, marks, IsSettledAt}
use Rattle.request_loop.specs.Slots.{Views, seen_in, StandsAt}

-- All packets that came since the start were dealt with: `past` is what was said on each connection, and no reply is owed. Of
-- each number this is held.
pub record Standing {D : Type 0} (tells : D → D → List Packet → List Packet → Type 0) (limits : Limits) (start now : D) (views : Views) (past : List (Mark Exchange)) : Type 0 where
  pub came : List Packet
  pub sent : List Packet
  pub told : tells start now came sent
  pub stands : (c : ℕ) → StandsAt limits c (marks came) (marks sent) past (seen_in views c)
  pub once_sent : (c : ℕ) → EndsOnce c (marks sent)
  pub once : (c : ℕ) → EndsOnce c past

-- On each connection the requests that came since the start are those that were said, in order, and what was sent are the
-- replies to them.
pub record Settled {D : Type 0} (tells : D → D → List Packet → List Packet → Type 0) (limits : Limits) (start now : D) (past : List (Mark Exchange)) : Type 0 where
  pub came : List Packet
  pub sent : List Packet
  pub told : tells start now came sent
  pub each : (c : ℕ) → IsSettledAt limits c (marks came) (marks sent) (said c past)
  pub left : (c : ℕ) → is_stopped c past ≡ is_stopped c (marks sent)
  pub once : (c : ℕ) → EndsOnce c past

-- Wherever the worker stood, whatever was said before: steps of a service, from x to y, led it to where it stands.
abbrev pub GoesOnBy : {D X : Type 0} → (D → D → List Packet → List Packet → Type 0) → (X → Call → X → Type 0) → Limits → D → D → X → X → Views → Views → Type 0
GoesOnBy {D} tells does limits old new x y before after =
    (start : D) (past : List (Mark Exchange)) → Standing tells limits start old before past → (steps : List Step) × Run does x steps y × Standing tells limits start new after (past ++ step_marks steps)
