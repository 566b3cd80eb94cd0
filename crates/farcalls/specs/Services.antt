-- What a session's service does at a call of the request loop.
use Rattle.std.specs.Prelude.{◌≡◌, ◌≢◌, Bool, false, []}
use Rattle.table_core.specs.declared.limits.Limits.{Limits}
use Rattle.request_loop.specs.Calls.{Call, Asked, Left, Awake, Opened, Noted}
use Rattle.request_loop.specs.declared.service.Next.TheVariants as behind
use Rattle.farcalls.specs.Sessions.{Session, Stays}
use Rattle.farcalls.specs.Answers.{IsAnswered}

module _ (l : Limits) (is_far : Bool) where
  -- Each request is answered, and no reply ends the connection.
  abbrev pub Acts : Session → Call → Session → Type 0
  Acts before (Asked c arguments reply next) after = IsAnswered l is_far arguments before after reply × (next ≢ behind.End)
  Acts before (Left c) after = after ≡ before
  Acts before (Opened c address let_in) after = (after ≡ before) × (let_in ≡ false)
  Acts before (Noted text reply) after = (after ≡ before) × (reply ≡ [])
  Acts before (Awake woken) after = Stays before after
