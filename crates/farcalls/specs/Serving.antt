-- What a session does, from the bytes that it reads to those that it writes, and from one map to the next.
use Rattle.std.specs.Prelude.{◌≡◌, ℕ, Bool, List, [], ◌++◌, map, replicate, Option, Ok, Err, IfSome, ⊤}
use Rattle.std.specs.Io.KnownBytes.{Consumes, Appends, IsAtEnd}
use Rattle.table_core.specs.declared.limits.Limits.{Limits}
use Rattle.resp.specs.declared.limits.Limits.{Limits as LimitsOfRequests}
use Rattle.request_loop.specs.declared.wire.Wire.{Wire}
use Rattle.request_loop.specs.Marks.{Mark, said, is_stopped, EndsOnce}
use Rattle.request_loop.specs.Calls.{Exchange, Step, step_marks, Run}
use Rattle.request_loop.specs.Workers.{Packet, marks, IsSettledAt}
use Rattle.request_loop.specs.Packets.{packets_bytes, WireTells}
use Rattle.request_loop.specs.Standing.{Standing}
use Rattle.farcalls.specs.Sessions.{Session}
use Rattle.farcalls.specs.Services.{Acts}
use Rattle.farcalls.specs.Left.{LeftView}
use Rattle.farcalls.specs.declared.session_end.SessionEnd.{SessionEnd}
use Rattle.farcalls.specs.declared.session_end.SessionEnd.TheVariants as session_end
use Rattle.farcalls.specs.declared.states.SessionState.{SessionState}
use Rattle.farcalls.specs.declared.states.SessionState.TheVariants as state

-- the limits of a request: as many strings and bytes as two values and a key have, or the keys of MGET
abbrev pub request_limits : LimitsOfRequests
request_limits = record { arguments = 65536; bytes = 50331648; line = 65536 }

module _ {In Out : Type 0} where
  -- so many sessions that have not begun
  abbrev pub all_fresh : ℕ → List (SessionState In Out)
  all_fresh count = replicate count state.Fresh

  -- sessions that have ended so
  abbrev pub all_ended : List (SessionEnd In Out) → List (SessionState In Out)
  all_ended ends = map state.Ended ends

module _ {In Out : Type 0} (remaining : In → Option (List ℕ)) (contents : Out → Option (List ℕ)) where
  -- From this reader and this writer on a session took packets, and sent packets, until the reader had no more: on each connection the requests
  -- that came are those of the exchanges that were said, in order, and what was sent are the replies to them.
  pub record HasServed (limits : LimitsOfRequests) (input input_left : In) (output output_left : Out) (past : List (Mark Exchange)) : Type 0 where
    pub came : List Packet
    pub sent : List Packet
    pub consumed : Consumes (remaining input) (remaining input_left) (packets_bytes came)
    pub at_end : IfSome (remaining input) (λ bytes. IsAtEnd (remaining input_left))
    pub appended : Appends (contents output) (contents output_left) (packets_bytes sent)
    pub each : (c : ℕ) → IsSettledAt limits c (marks came) (marks sent) (said c past)
    pub left : (c : ℕ) → is_stopped c past ≡ is_stopped c (marks sent)
    pub once : (c : ℕ) → EndsOnce c past

  -- How a session stands by what it keeps, whose packets began there: these exchanges were said on its connections, and no reply is owed.
  abbrev pub StandsFrom : LimitsOfRequests → Wire In Out → SessionState In Out → List (Mark Exchange) → Type 0
  StandsFrom limits start state.Fresh past = ⊥
  StandsFrom limits start (state.Left left) past = (left.wire.limits ≡ limits) × Standing (WireTells remaining contents) limits start left.wire left.views past
  StandsFrom limits start (state.Ended (session_end.Served input output)) past = HasServed limits start.input input start.output output past
  StandsFrom limits start (state.Ended (session_end.Failed why)) past = ⊤

  -- A term of a session that had left a map, from its first call to its last: wherever its packets began, and whatever was said since, steps
  -- lead to how it stands now, and what is said then are their exchanges, too.
  pub record IsGoing (l : Limits) (is_far : Bool) (old new : Session) (left : LeftView In Out) (after : SessionState In Out) : Type 0 where
    pub went_on : (start : Wire In Out) (past : List (Mark Exchange)) → Standing (WireTells remaining contents) left.wire.limits start left.wire left.views past
        → (steps : List Step) × Run (Acts l is_far) old steps new × StandsFrom left.wire.limits start after (past ++ step_marks steps)

  -- the same where no fault ends it
  abbrev pub GoesOn : Limits → Bool → Session → Session → LeftView In Out → SessionState In Out → Type 0
  GoesOn l is_far old new left (state.Ended (session_end.Failed why)) = ⊤
  GoesOn l is_far old new left after = IsGoing l is_far old new left after

  module _ (Opens : In → Out → Type 0) where
    -- The same of one that has not begun, by which nothing was said, or whose reader and writer were opened for it.
    abbrev pub Stands : LimitsOfRequests → SessionState In Out → List (Mark Exchange) → Type 0
    Stands limits state.Fresh past = past ≡ []
    Stands limits kept past = (start : Wire In Out) × Opens start.input start.output × StandsFrom limits start kept past

    -- A term of a session, from its first call to its last: however it stood before, and whatever was said since its beginning, steps lead to
    -- how it stands now, and what is said then are their exchanges, too.
    pub record IsTerm (l : Limits) (is_far : Bool) (old new : Session) (before after : SessionState In Out) : Type 0 where
      pub went_on : (past : List (Mark Exchange)) → Stands request_limits before past
          → (steps : List Step) × Run (Acts l is_far) old steps new × Stands request_limits after (past ++ step_marks steps)

    -- the same where no fault ends it
    abbrev pub ServesOn : Limits → Bool → Session → Session → SessionState In Out → SessionState In Out → Type 0
    ServesOn l is_far old new before (state.Ended (session_end.Failed why)) = ⊤
    ServesOn l is_far old new before after = IsTerm l is_far old new before after
