-- What a worker does, from the bytes that it reads to those that it writes, and from one map to the next.
use Rattle.std.specs.Prelude.{◌≡◌, ◌⊎◌, ℕ, ◌<◌, ◌≤◌, List, [], ◌++◌, map, replicate, Option, Ok, Err, IfSome, ⊤}
use Rattle.std.specs.Io.KnownBytes.{Consumes, Appends, IsAtEnd}
use Rattle.table_core.specs.declared.limits.Limits.{Limits}
use Rattle.resp.specs.declared.limits.Limits.{Limits as LimitsOfRequests}
use Rattle.request_loop.specs.declared.wire.Wire.{Wire}
use Rattle.request_loop.specs.Marks.{Mark, said, is_stopped, EndsOnce}
use Rattle.request_loop.specs.Calls.{Exchange, Step, step_marks, Run}
use Rattle.request_loop.specs.Workers.{Packet, marks, IsSettledAt}
use Rattle.request_loop.specs.Packets.{packets_bytes, WireTells}
use Rattle.request_loop.specs.Standing.{Standing}
use Rattle.far_server.specs.Sessions.{Session}
use Rattle.far_server.specs.Services.{WorkerView, worker_view, IsNew, Acts}
use Rattle.far_server.specs.Sweeps.{Sweeps}
use Rattle.far_server.specs.Left.{LeftView}
use Rattle.far_server.specs.declared.settings.Bounds.{Bounds}
use Rattle.stored_keys.specs.declared.DigestKeys.{DigestKeys}
use Rattle.far_server.specs.declared.settings.ServerSettings.{ServerSettings}
use Rattle.far_server.specs.declared.worker_end.WorkerEnd.{WorkerEnd}
use Rattle.far_server.specs.declared.worker_end.WorkerEnd.TheVariants as worker_end
use Rattle.far_server.specs.declared.states.WorkerState.{WorkerState}
use Rattle.far_server.specs.declared.states.WorkerState.TheVariants as state

module _ {In Out : Type 0} where
  -- so many workers that have not begun
  abbrev pub all_fresh : ℕ → List (WorkerState In Out)
  all_fresh count = replicate count state.Fresh

  -- workers that have ended so
  abbrev pub all_ended : List (WorkerEnd In Out) → List (WorkerState In Out)
  all_ended ends = map state.Ended ends

  -- what a worker knows of its connections by what it keeps
  abbrev pub Knows : Limits → DigestKeys → Option (List ℕ) → Bounds → WorkerState In Out → WorkerView → Type 0
  Knows l digest password bounds state.Fresh worker = IsNew l digest password bounds worker
  Knows l digest password bounds (state.Left left) worker = worker ≡ worker_view password worker.session left.connections
  Knows l digest password bounds (state.Ended end) worker = ⊤

module _ {In Out : Type 0} (remaining : In → Option (List ℕ)) (contents : Out → Option (List ℕ)) where
  -- From this reader and this writer on a worker took packets, and sent packets, until the reader had no more: on each connection the requests
  -- that came are those of the exchanges that were said, in order, and what was sent are the replies to them.
  pub record HasServed (limits : LimitsOfRequests) (input input_left : In) (output output_left : Out) (past : List (Mark Exchange)) : Type 0 where
    pub came : List Packet
    pub sent : List Packet
    pub consumed : Consumes (remaining input) (remaining input_left) (packets_bytes came)
    pub at_end : IfSome (remaining input) (λ bytes. IsAtEnd (remaining input_left))
    pub appended : Appends (contents output) (contents output_left) (packets_bytes sent)
    pub each : (c : ℕ) → IsSettledAt limits c (marks came) (marks sent) (said c past)
    pub left : (c : ℕ) → is_stopped c past ≡ is_stopped c (marks sent)
    pub once : (c : ℕ) → EndsOnce c past

  -- How a worker stands by what it keeps, whose packets began there: these exchanges were said on its connections, and no reply is owed.
  abbrev pub StandsFrom : LimitsOfRequests → Wire In Out → WorkerState In Out → List (Mark Exchange) → Type 0
  StandsFrom limits start state.Fresh past = ⊥
  StandsFrom limits start (state.Left left) past = (left.wire.limits ≡ limits) × Standing (WireTells remaining contents) limits start left.wire left.views past
  StandsFrom limits start (state.Ended (worker_end.Served (Ok parts))) past = HasServed limits start.input parts.0 start.output parts.1 past
  StandsFrom limits start (state.Ended other) past = ⊤

  -- A term of a worker that had left a map, by one session, from its first call to its last: wherever its packets began, and whatever was said
  -- since, steps lead to how it stands now, and what is said then are their exchanges, too. What it knows of its connections goes on.
  pub record IsGoing (l : Limits) (digest : DigestKeys) (password : Option (List ℕ)) (bounds : Bounds) (old new : Session) (left : LeftView In Out) (after : WorkerState In Out) : Type 0 where
    pub last : WorkerView
    pub ended : last.session ≡ new
    pub knows : Knows l digest password bounds after last
    pub went_on : (start : Wire In Out) (past : List (Mark Exchange)) → Standing (WireTells remaining contents) left.wire.limits start left.wire left.views past
        → (steps : List Step) × Run (Acts l digest password bounds) (worker_view password old left.connections) steps last × StandsFrom left.wire.limits start after (past ++ step_marks steps)

  -- the same where no fault ends it
  abbrev pub GoesOn : Limits → DigestKeys → Option (List ℕ) → Bounds → Session → Session → LeftView In Out → WorkerState In Out → Type 0
  GoesOn l digest password bounds old new left (state.Ended (worker_end.Served (Err why))) = ⊤
  GoesOn l digest password bounds old new left after = IsGoing l digest password bounds old new left after

  module _ (Opens : In → Out → Type 0) where
    -- The same of one that has not begun, by which nothing was said, or whose reader and writer were opened for it.
    abbrev pub Stands : LimitsOfRequests → WorkerState In Out → List (Mark Exchange) → Type 0
    Stands limits state.Fresh past = past ≡ []
    Stands limits kept past = (start : Wire In Out) × Opens start.input start.output × StandsFrom limits start kept past

    -- A term of a worker, by one session, from its first call to its last: however the worker stood before, and whatever was said since its
    -- beginning, steps lead to how it stands now, and what is said then are their exchanges, too. What it knows of its connections goes on.
    pub record IsTermOfWorker (l : Limits) (settings : ServerSettings) (old new : Session) (before after : WorkerState In Out) : Type 0 where
      pub first : WorkerView
      pub last : WorkerView
      pub begun : first.session ≡ old
      pub ended : last.session ≡ new
      pub knew : Knows l settings.digest_keys settings.password settings.bounds before first
      pub knows : Knows l settings.digest_keys settings.password settings.bounds after last
      pub went_on : (past : List (Mark Exchange)) → Stands settings.requests before past
          → (steps : List Step) × Run (Acts l settings.digest_keys settings.password settings.bounds) first steps last × Stands settings.requests after (past ++ step_marks steps)

    -- the same where no fault ends it
    abbrev pub ServesOn : Limits → ServerSettings → Session → Session → WorkerState In Out → WorkerState In Out → Type 0
    ServesOn l settings old new before (state.Ended (worker_end.Served (Err why))) = ⊤
    ServesOn l settings old new before after = IsTermOfWorker l settings old new before after

    -- one term of a thread of the server: a worker serves; the thread after the last worker is the sweep, which takes keys out
    abbrev pub IsTerm : Limits → ServerSettings → ℕ → Session → Session → WorkerState In Out → WorkerState In Out → Type 0
    IsTerm l settings worker old new before after =
        ((worker < settings.workers) × ServesOn l settings old new before after)
        ⊎ ((settings.workers ≤ worker) × Sweeps l settings.options.evicts old new × (after ≡ state.Ended worker_end.Sweep))
