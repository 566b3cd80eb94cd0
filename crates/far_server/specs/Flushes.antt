-- What FLUSHDB and FLUSHALL do with their session, and what they reply.
use Rattle.std.specs.Prelude.{◌≡◌, ◌⊎◌, ℕ, zero, suc, ◌<◌, nat_eq, Bool, true, false, MatchBool, List, [], ◌∷◌, map, codes, Option, Some, None, Result, Ok, Err}
use Rattle.std.specs.Global.{Vec}
use Rattle.far_blob.specs.Encodings.{enc_blob}
use Rattle.table_core.specs.declared.limits.Limits.{Limits}
use Rattle.table_core.specs.declared.operation.Operation.TheVariants as op
use Rattle.version_words.specs.Views.{Goes}
use Rattle.resp.specs.Replies.{Token, Simple, Failure}
use Rattle.far_map.specs.declared.refusal.MapRefusal.{MapRefusal}
use Rattle.far_map.specs.Views.{Pairs}
use Rattle.far_map.specs.Visits.{AreOfBucket}
use Rattle.far_server.specs.Sessions.{Session, Called}
use Rattle.far_server.specs.Steps.{Steps}
use Rattle.server_commands.specs.declared.device_reason.DeviceReason.{DeviceReason}
use Rattle.far_server.specs.Refusing.{text_with}
use Rattle.stored_keys.specs.StoredKeys.{database_of}

-- the number that a stored key has for its database is this one
abbrev pub is_number : ℕ → Option ℕ → Bool
is_number d (Some other) = nat_eq other d
is_number d None = false

-- a stored key is of this database, or of any
abbrev pub is_of : Option ℕ → List ℕ → Bool
is_of (Some d) stored = is_number d (database_of stored)
is_of None stored = true

module _ (l : Limits) where
  -- these are all keys of a bucket, as they were at the front of the session's pass, which made no call
  pub record Finds (bucket : ℕ) (old new : Session) (keys : List (List ℕ)) : Type 0 where
    pub goes : Goes old.pass new.pass
    pub pairs : Pairs (List ℕ)
    pub are : AreOfBucket enc_blob l bucket new.pass pairs
    pub found : keys ≡ map (λ p. p.0) pairs

  -- the same where the bucket could be read
  abbrev pub IsFinding : ℕ → Session → Session → Result (Vec (List ℕ)) MapRefusal → Type 0
  IsFinding bucket old new (Ok keys) = Finds bucket old new keys.items
  IsFinding bucket old new (Err why) = Goes old.pass new.pass

module _ (l : Limits) (database : Option ℕ) where
  -- the removal of a key of this database, or of any
  abbrev pub Removes : Session → Session → Type 0
  Removes old new = (k : List ℕ) × (answer : Result (Option (List ℕ)) MapRefusal) × (is_of database k ≡ true) × Called l old new (op.Remove k) answer

  -- no call, or the removal of a key
  abbrev pub IsRemoval : Session → Session → Type 0
  IsRemoval old new = Goes old.pass new.pass ⊎ Removes old new

  -- keys of the database were taken out, and no other call was made
  abbrev pub Flushes : Session → Session → Type 0
  Flushes old new = Steps IsRemoval old new

  -- the removal of a key was not refused
  abbrev pub IsRemoved : List ℕ → Session → Session → Type 0
  IsRemoved k old new = (found : Option (List ℕ)) × Called l old new (op.Remove k) (Ok found)

  -- of these keys each one of the database was removed, in their order, and no other call was made
  abbrev pub AreTaken : List (List ℕ) → Session → Session → Type 0
  AreTaken [] old new = old ≡ new
  AreTaken (k ∷ ks) old new = (mid : Session) × MatchBool (is_of database k) (IsRemoved k old mid) (old ≡ mid) × AreTaken ks mid new

  -- a bucket was flushed: each key of the database that it had when it was visited was removed
  abbrev pub IsFlushed : ℕ → Session → Session → Type 0
  IsFlushed bucket old new = (mid : Session) × (keys : List (List ℕ)) × Finds l bucket old mid keys × AreTaken keys mid new

  -- the same, or a call was refused on the way
  abbrev pub IsFlushing : ℕ → Session → Session → Result (Unit {0}) MapRefusal → Type 0
  IsFlushing bucket old new (Ok _) = IsFlushed bucket old new
  IsFlushing bucket old new (Err why) = Flushes old new

  -- so many buckets were flushed, one after another
  abbrev pub AreFlushed : ℕ → Session → Session → Type 0
  AreFlushed zero old new = old ≡ new
  AreFlushed (suc b) old new = (mid : Session) × AreFlushed b old mid × IsFlushed b mid new

  -- the buckets before this one were flushed, and a call on this one was refused
  pub record IsBroken (old new : Session) : Type 0 where
    pub bucket : ℕ
    pub mid : Session
    pub within : bucket < l.buckets
    pub flushed : AreFlushed bucket old mid
    pub last : Flushes mid new

  -- all buckets were flushed, or it broke off
  abbrev pub IsFlushOfAll : Session → Session → Result (Unit {0}) MapRefusal → Type 0
  IsFlushOfAll old new (Ok _) = AreFlushed l.buckets old new
  IsFlushOfAll old new (Err why) = IsBroken old new

  -- the reply is OK only where all buckets were flushed
  abbrev pub IsFlush : Session → Session → List Token → Type 0
  IsFlush old new rs = (AreFlushed l.buckets old new × (rs ≡ Simple (codes "OK") ∷ []))
      ⊎ (IsBroken old new × ((why : MapRefusal) × (known : Option DeviceReason) × (rs ≡ Failure (text_with why known) ∷ [])))
