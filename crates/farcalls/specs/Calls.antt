-- The calls of requests on one key, and why a request is replied an error.
use Rattle.std.specs.Prelude.{◌≡◌, ◌≢◌, ◌⊎◌, ◌≤◌, ◌<◌, ◌^◌, ℕ, Bool, List, [], ◌∷◌, length, Option, Some, None, Result, Ok, Err, ⊤}
use Rattle.std.specs.Option.{is_some}
use Rattle.table_core.specs.declared.limits.Limits.{Limits}
use Rattle.table_core.specs.declared.operation.Operation.TheVariants as op
use Rattle.table_core.specs.Maps.{key_of}
use Rattle.hash_table.specs.declared.removal.Removal.{Removal}
use Rattle.hash_table.specs.Changes.{Sets, removal_of}
use Rattle.far_map.specs.declared.refusal.MapRefusal.TheVariants as refusal
use Rattle.far_map.specs.Removals.{IsMet}
use Rattle.farcalls.specs.declared.refusal.Unanswered.{Unanswered}
use Rattle.farcalls.specs.declared.refusal.Unanswered.TheVariants as unanswered
use Rattle.farcalls.specs.Sessions.{Session, Call, Stays, Makes}

-- a call that was answered so left the map as it was
abbrev pub IsIdle : Call → Option (List ℕ) → Type 0
IsIdle (op.Get k) found = ⊤
IsIdle (op.Put k v) found = ⊥
IsIdle (op.Remove k) found = ⊥
IsIdle (op.PutIf k expected v) found = found ≢ expected

-- a call that was answered so may have changed the map
abbrev pub IsChange : Call → Option (List ℕ) → Type 0
IsChange (op.Get k) found = ⊥
IsChange (op.Put k v) found = ⊤
IsChange (op.Remove k) found = ⊤
IsChange (op.PutIf k expected v) found = found ≡ expected

-- a key that can't be one, and why
abbrev pub IsKeyFault : List ℕ → Unanswered → Type 0
IsKeyFault k unanswered.KeyTooLong = 2 ^ 16 ≤ length k
IsKeyFault k (unanswered.Refused why) = why ≡ refusal.Memory
IsKeyFault k _ = ⊥

-- a value that can't be one, and why
abbrev pub IsValueFault : List ℕ → Unanswered → Type 0
IsValueFault v unanswered.ValueTooLong = 2 ^ 24 < length v
IsValueFault v (unanswered.Refused why) = why ≡ refusal.Memory
IsValueFault v _ = ⊥

-- one of these values is longer than a value may be
abbrev pub IsLong : List (List ℕ) → Type 0
IsLong [] = ⊥
IsLong (v ∷ vs) = (2 ^ 24 < length v) ⊎ IsLong vs

module _ (l : Limits) (values : List (List ℕ)) (o : Call) where
  -- A request whose call this is is replied an error. If it is not `Lost`, the map is as it was: the call was refused, or it was not made
  -- because there was no memory for it, or it changed nothing and there was no memory for its reply. `Lost` says that it changed the map.
  abbrev pub IsUnmade : Unanswered → Session → Session → Type 0
  IsUnmade (unanswered.Refused why) old new = Makes l o (Err why) old new
      ⊎ ((why ≡ refusal.Memory) × (Stays old new ⊎ ((found : Option (List ℕ)) × IsIdle o found × Makes l o (Ok found) old new)))
  IsUnmade unanswered.NoRoom old new = Sets o × Stays old new
  IsUnmade unanswered.KeyTooLong old new = (2 ^ 16 ≤ length (key_of o)) × Stays old new
  IsUnmade unanswered.ValueTooLong old new = IsLong values × Stays old new
  IsUnmade unanswered.ReplyTooLong old new = ⊥
  IsUnmade unanswered.Lost old new = (found : Option (List ℕ)) × IsChange o found × Makes l o (Ok found) old new

  -- the call was made and answered, or not
  abbrev pub IsCalled : Session → Session → Result (Option (List ℕ)) Unanswered → Type 0
  IsCalled old new (Ok found) = Makes l o (Ok found) old new
  IsCalled old new (Err why) = IsUnmade why old new

  -- the same, if only whether there was a value is returned
  abbrev pub IsFlagCalled : Session → Session → Result Bool Unanswered → Type 0
  IsFlagCalled old new (Ok flag) = (found : Option (List ℕ)) × (flag ≡ is_some found) × Makes l o (Ok found) old new
  IsFlagCalled old new (Err why) = IsUnmade why old new

-- the key was removed if it had the expected value, and otherwise it was got
abbrev pub IsRemoved : Limits → List ℕ → List ℕ → Session → Session → Result (Removal (List ℕ)) Unanswered → Type 0
IsRemoved l k e old new (Ok removal) = IsMet e removal × Makes l (removal_of k removal.removed) (Ok removal.found) old new
IsRemoved l k e old new (Err why) = IsUnmade l (e ∷ []) (op.Remove k) why old new

-- whether a call found a value
abbrev pub IsFlagOf : Result (Option (List ℕ)) Unanswered → Result Bool Unanswered → Type 0
IsFlagOf (Ok found) (Ok flag) = flag ≡ is_some found
IsFlagOf (Ok found) (Err why) = ⊥
IsFlagOf (Err why) (Ok flag) = ⊥
IsFlagOf (Err why) (Err other) = why ≡ other
