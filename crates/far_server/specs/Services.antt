-- What a worker's service does: its connections and its session.
use Rattle.std.specs.Prelude.{◌≡◌, ◌≢◌, ℕ, true, List, Option}
use Rattle.table_core.specs.declared.limits.Limits.{Limits}
use Rattle.version_words.specs.Views.{Goes}
use Rattle.request_loop.specs.Calls.{Call, Asked, Left, Awake, Opened, Noted}
use Rattle.far_server.specs.Sessions.{Session}
use Rattle.far_server.specs.Answers.{Known, known_at, is_free, unknown, IsAdmission, IsAnswered}
use Rattle.far_server.specs.declared.connection.Connection.{Connection}
use Rattle.far_server.specs.declared.settings.Bounds.{Bounds}
use Rattle.stored_keys.specs.declared.DigestKeys.{DigestKeys}

-- a worker: its session, and what is known of the connection of each number
pub record WorkerView : Type 0 where
  pub session : Session
  pub connections : ℕ → Known

-- a worker of which these connections are known
abbrev pub worker_view : Option (List ℕ) → Session → List (ℕ × Connection) → WorkerView
worker_view password session connections = record { session = session; connections = λ c. known_at connections c (unknown password) }

module _ (l : Limits) (digest : DigestKeys) (password : Option (List ℕ)) (bounds : Bounds) where
  -- nothing is known of the connections
  abbrev pub IsNew : WorkerView → Type 0
  IsNew worker = (c : ℕ) → worker.connections c ≡ unknown password

  -- the other connections are known as before
  abbrev pub Leaves : ℕ → WorkerView → WorkerView → Type 0
  Leaves c before after = (d : ℕ) → d ≢ c → after.connections d ≡ before.connections d

  -- the session and the connections are as before
  abbrev pub Stays : WorkerView → WorkerView → Type 0
  Stays before after = (after.session ≡ before.session) × ((c : ℕ) → after.connections c ≡ before.connections c)

  -- what a worker does at a call
  abbrev pub Acts : WorkerView → Call → WorkerView → Type 0
  Acts before (Asked c arguments reply next) after =
      IsAnswered l digest password bounds (before.connections c) (after.connections c) arguments before.session after.session reply next
      × IsAdmission (before.connections c).is_authenticated (after.connections c).is_authenticated next × Leaves c before after
  Acts before (Left c) after = (after.session ≡ before.session) × (after.connections c ≡ unknown password) × Leaves c before after
  Acts before (Opened c address let_in) after = (let_in ≡ true → is_free password ≡ true) × Stays before after
  Acts before (Noted text reply) after = Stays before after
  Acts before (Awake woken) after = Goes before.session.pass after.session.pass × ((c : ℕ) → after.connections c ≡ before.connections c)
