-- What the sweep of a server does with its session.
use Rattle.std.specs.Prelude.{◌≡◌, ◌≢◌, ◌⊎◌, ℕ, ◌≤◌, Bool, true, List, None, Result, IfOk}
use Rattle.table_core.specs.declared.limits.Limits.{Limits}
use Rattle.version_words.specs.Views.{Goes}
use Rattle.commands.specs.Stored.{stored}
use Rattle.hash_table.specs.declared.removal.Removal.{Removal}
use Rattle.far_map.specs.declared.refusal.MapRefusal.{MapRefusal}
use Rattle.far_map.specs.Removals.{call_of, found_in, IsMet}
use Rattle.far_server.specs.Looks.{WasLookedAt}
use Rattle.far_server.specs.Sessions.{Session, Called}
use Rattle.far_server.specs.Steps.{Steps}
use Rattle.far_server.specs.Flushes.{Removes}

-- stored bytes whose deadline had come at this time
pub record IsOver (now : ℕ) (bytes : List ℕ) : Type 0 where
  pub deadline : ℕ
  pub value : List ℕ
  pub form : bytes ≡ stored deadline value
  pub has_one : deadline ≢ 0
  pub come : deadline ≤ now

module _ (l : Limits) where
  -- a key was taken out where its value was still this one, which was expired when the clock was looked at
  pub record Expires (old new : Session) : Type 0 where
    pub key : List ℕ
    pub expired : List ℕ
    pub now : ℕ
    pub looked : WasLookedAt now
    pub is_over : IsOver now expired
    pub result : Result (Removal (List ℕ)) MapRefusal
    pub called : Called l old new (call_of key result) (found_in result)
    pub met : IfOk result (IsMet expired)

  module _ (evicts : Bool) where
    -- no call, the removal of an expired value, or where the policy evicts that of any key
    abbrev pub IsSweeping : Session → Session → Type 0
    IsSweeping old new = Goes old.pass new.pass ⊎ (Expires old new ⊎ ((evicts ≡ true) × Removes l None old new))

    -- no other call was made
    abbrev pub Sweeps : Session → Session → Type 0
    Sweeps old new = Steps IsSweeping old new
