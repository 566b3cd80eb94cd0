-- What a command on one key does with its session, and what it replies.
use Rattle.std.specs.Prelude.{◌≡◌, ◌≢◌, ◌⊎◌, ◌≤◌, ◌<◌, ℕ, Bool, true, false, List, length, Option, Some, None, Result, Ok, Err}
use Rattle.table_core.specs.declared.limits.Limits.{Limits}
use Rattle.table_core.specs.declared.operation.Operation.TheVariants as op
use Rattle.table_core.specs.Maps.{key_of}
use Rattle.version_words.specs.Views.{Goes}
use Rattle.resp.specs.Replies.{Token, Failure, token}
use Rattle.key_commands.specs.declared.key_command.KeyCommand.{KeyCommand}
use Rattle.key_commands.specs.declared.key_command.Effect.{Effect}
use Rattle.key_commands.specs.declared.key_command.Effect.TheVariants as effects
use Rattle.key_commands.specs.Doing.{Does}
use Rattle.far_map.specs.declared.refusal.MapRefusal.{MapRefusal}
use Rattle.far_server.specs.Sessions.{Session, Call, Called}
use Rattle.far_server.specs.Steps.{Steps}
use Rattle.server_commands.specs.declared.device_reason.DeviceReason.{DeviceReason}
use Rattle.far_server.specs.Refusing.{IsTold, text_with, overtaken, no_room, key_too_long}
use Rattle.stored_keys.specs.declared.Keyspace.{Keyspace}
use Rattle.stored_keys.specs.StoredKeys.{stored_key, longest_key}

-- a call on this key that was answered so leaves the map as it was
abbrev pub IsIdleCall : List ℕ → Call → Result (Option (List ℕ)) MapRefusal → Type 0
IsIdleCall k (op.Get j) (Ok found) = j ≡ k
IsIdleCall k (op.PutIf j expected value) (Ok found) = (j ≡ k) × (found ≢ expected)
IsIdleCall k o (Ok found) = ⊥
IsIdleCall k o (Err why) = key_of o ≡ k

module _ (l : Limits) (k : List ℕ) where
  -- the session made one call, which left the map as it was
  pub record MakesIdleCall (old new : Session) : Type 0 where
    pub call : Call
    pub answer : Result (Option (List ℕ)) MapRefusal
    pub called : Called l old new call answer
    pub idle : IsIdleCall k call answer

  -- the same, or it made none
  abbrev pub IsIdle : Session → Session → Type 0
  IsIdle old new = MakesIdleCall old new ⊎ Goes old.pass new.pass

  -- some steps, which left the map as it was
  abbrev pub Idles : Session → Session → Type 0
  Idles old new = Steps IsIdle old new

  -- the change of a value that was found, which is still there: none, or one call
  abbrev pub Changes : Effect → Option (List ℕ) → List ℕ → Session → Session → Type 0
  Changes effects.Leaves found bytes old new = old ≡ new
  Changes effects.Sets found bytes old new = Called l old new (op.PutIf k found bytes) (Ok found)
  Changes effects.Removes None bytes old new = old ≡ new
  Changes effects.Removes (Some value) bytes old new = Called l old new (op.Remove k) (Ok (Some value))

  -- a call was refused, or bytes could not be copied, before any call
  abbrev pub IsStopped : MapRefusal → Session → Session → Type 0
  IsStopped why old new = ((call : Call) × (key_of call ≡ k) × Called l old new call (Err why)) ⊎ (old ≡ new)

  -- the change was made; somebody else was faster; or it was refused
  abbrev pub IsSettled : Option (List ℕ) → Effect → List ℕ → Session → Session → Result Bool MapRefusal → Type 0
  IsSettled found effect bytes old new (Ok true) = Changes effect found bytes old new
  IsSettled found effect bytes old new (Ok false) = IsIdle old new
  IsSettled found effect bytes old new (Err why) = IsStopped why old new

  -- the value was got and the change made; or the key was set, whatever it had
  abbrev pub Makes : Effect → Option (List ℕ) → List ℕ → Session → Session → Type 0
  Makes effect found bytes old new = ((got : Session) × Called l old got (op.Get k) (Ok found) × Changes effect found bytes got new)
      ⊎ ((effect ≡ effects.Sets) × Called l old new (op.Put k bytes) (Ok found))

  module _ (command : KeyCommand) (now most : ℕ) where
    -- the command replies this to the value that the key has, and makes this change of it
    pub record Carries (old new : Session) (reply : Token) : Type 0 where
      pub found : Option (List ℕ)
      pub effect : Effect
      pub bytes : List ℕ
      pub does : Does command now most found reply effect bytes
      pub makes : Makes effect found bytes old new

    -- one try, which pushed these bytes
    abbrev pub IsTried : Session → Session → List ℕ → Result Bool MapRefusal → Type 0
    IsTried old new pushed (Ok true) = (r : Token) × (pushed ≡ token r) × Carries old new r
    IsTried old new pushed (Ok false) = Idles old new
    IsTried old new pushed (Err why) = (mid : Session) × Idles old mid × IsStopped why mid new

    -- tries, of which the last pushed these bytes; where none was done others were faster each time
    abbrev pub IsEnded : Session → Session → List ℕ → Result Bool MapRefusal → Type 0
    IsEnded old new pushed (Ok true) = (mid : Session) × Idles old mid × ((r : Token) × (pushed ≡ token r) × Carries mid new r)
    IsEnded old new pushed (Ok false) = Idles old new
    IsEnded old new pushed (Err why) = (mid : Session) × Idles old mid × IsStopped why mid new

    -- A command on a stored key is answered by this token: as it was carried out, by a refusal, since others were faster each time, or for want
    -- of room. The calls before the last one left the map as it was.
    abbrev pub IsOnStored : Session → Session → Token → Type 0
    IsOnStored old new reply = (mid : Session) × Idles old mid × (
        Carries mid new reply
        ⊎ (((why : MapRefusal) × (told : MapRefusal) × (known : Option DeviceReason) × IsStopped why mid new × IsTold why told × (reply ≡ Failure (text_with told known)))
        ⊎ ((mid ≡ new) × ((reply ≡ Failure overtaken) ⊎ ((known : Option DeviceReason) × (reply ≡ Failure (no_room known)))))))

-- A command on a client's key is one on its stored key, in this keyspace. Of a key that is too long for one this is told, and no call was made.
abbrev pub IsKeyed : Limits → Keyspace → List ℕ → KeyCommand → ℕ → ℕ → Session → Session → Token → Type 0
IsKeyed l keyspace k command now most old new reply =
    ((length k ≤ longest_key) × IsOnStored l (stored_key keyspace k) command now most old new reply)
    ⊎ ((longest_key < length k) × Goes old.pass new.pass × (reply ≡ Failure key_too_long))
