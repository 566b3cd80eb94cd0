-- What a command on several keys does with its session, and what it replies.
use Rattle.std.specs.Prelude.{◌≡◌, ◌≢◌, ◌⊎◌, ℕ, ◌+◌, ◌-◌, ◌^◌, ◌<◌, ◌≤◌, min, pos, Bool, true, false, MatchBool, List, [], ◌∷◌, ◌++◌, length, codes}
use denote.Ref.{Bor}
use Rattle.table_core.specs.declared.limits.Limits.{Limits}
use Rattle.std.specs.List.{flat_map}
use Rattle.resp.specs.Replies.{Token, Simple, Number, Count, Failure, token}
use Rattle.commands.specs.declared.command.Change.{Change}
use Rattle.commands.specs.declared.command.Where.TheVariants as places
use Rattle.commands.specs.declared.command.Lifetime.TheVariants as lifetime
use Rattle.key_commands.specs.declared.key_command.KeyCommand.{KeyCommand}
use Rattle.key_commands.specs.declared.key_command.KeyCommand.TheVariants as ask
use Rattle.far_server.specs.Sessions.{Session}
use Rattle.far_server.specs.Keyed.{IsKeyed}
use Rattle.far_map.specs.declared.refusal.MapRefusal.TheVariants as refusal
use Rattle.far_server.specs.Bounds.{longest, too_large}
use Rattle.far_server.specs.Refusing.{text_of}
use Rattle.stored_keys.specs.declared.Keyspace.{Keyspace}

-- one more, as far as 63 bits tell
abbrev pub more : ℕ → ℕ
more n = min (n + 1) (2 ^ 63 - 1)

abbrev pub one : List ℕ
one = codes ":1\r\n"

abbrev pub none : List ℕ
none = codes ":0\r\n"

abbrev pub ok : List ℕ
ok = codes "+OK\r\n"

-- one more where a key was counted
abbrev pub counted : Bool → ℕ → ℕ
counted true n = more n
counted false n = n

-- a SET without options
abbrev pub plain : Change
plain = record { to = places.Always; get = false; lifetime = lifetime.Forever }

module _ (l : Limits) (keyspace : Keyspace) (now most : ℕ) where
  module _ (command : KeyCommand) where
    -- The command was carried out on these keys, one after another, and each replied 1 or 0: so many 1 more than before.
    abbrev pub AreCounted : List (List ℕ) → ℕ → ℕ → Session → Session → Type 0
    AreCounted [] from to old new = (old ≡ new) × (from ≡ to)
    AreCounted (k ∷ ks) from to old new = (mid : Session) × (r : Token) × (is_one : Bool) × IsKeyed l keyspace k command now most old mid r
        × MatchBool is_one (token r ≡ one) (token r ≡ none) × AreCounted ks (counted is_one from) to mid new

    -- the reply is how many replied 1; or the first that is neither 1 nor 0, which is an error, and the keys after it are left
    abbrev pub IsCountedEach : List (List ℕ) → Session → Session → Token → Type 0
    IsCountedEach ks old new r = ((count : ℕ) × AreCounted ks 0 count old new × (r ≡ Number (pos count)))
        ⊎ ((before : List (List ℕ)) × (k : List ℕ) × (behind : List (List ℕ)) × (count : ℕ) × (mid : Session) × (ks ≡ before ++ k ∷ behind) × AreCounted before 0 count old mid × IsKeyed l keyspace k command now most mid new r × (token r ≢ one) × (token r ≢ none))

    -- The command was carried out on these keys, one after another, and these are the replies. Before each there was room for the longest
    -- value within a limit for all.
    abbrev pub AreListed : ℕ → List (List ℕ) → List Token → Session → Session → Type 0
    AreListed limit [] rs old new = (old ≡ new) × (rs ≡ [])
    AreListed limit (k ∷ ks) rs old new = (longest most ≤ limit) × ((mid : Session) × (r : Token) × (rest : List Token) × IsKeyed l keyspace k command now most old mid r
        × AreListed (limit - length (token r)) ks rest mid new × (rs ≡ r ∷ rest))

    -- an array of the replies
    abbrev pub IsListedEach : ℕ → List (List ℕ) → Session → Session → List Token → Type 0
    IsListedEach limit ks old new rs = (each : List Token) × AreListed (limit - length (token (Count (length ks)))) ks each old new × (rs ≡ Count (length ks) ∷ each)

    -- An error in its place: the command was carried out on some keys, and their replies and the longest value are longer than the limit.
    pub record IsTooLong (limit : ℕ) (ks : List (List ℕ)) (old new : Session) (rs : List Token) : Type 0 where
      pub before : List (List ℕ)
      pub behind : List (List ℕ)
      pub each : List Token
      pub split : ks ≡ before ++ behind
      pub listed : AreListed (limit - length (token (Count (length ks)))) before each old new
      pub passes : limit < length (flat_map token (Count (length ks) ∷ each)) + longest most
      pub reply : rs ≡ Failure too_large ∷ []

    -- The error of refused memory in its place: the command was carried out on some keys.
    pub record IsWithoutMemory (limit : ℕ) (ks : List (List ℕ)) (old new : Session) (rs : List Token) : Type 0 where
      pub before : List (List ℕ)
      pub behind : List (List ℕ)
      pub each : List Token
      pub split : ks ≡ before ++ behind
      pub listed : AreListed (limit - length (token (Count (length ks)))) before each old new
      pub reply : rs ≡ Failure (text_of refusal.Memory) ∷ []

    abbrev pub IsListedIfShort : ℕ → List (List ℕ) → Session → Session → List Token → Type 0
    IsListedIfShort limit ks old new rs = IsListedEach limit ks old new rs ⊎ (IsTooLong limit ks old new rs ⊎ IsWithoutMemory limit ks old new rs)

  -- a key was set to a value, without options and without a deadline
  abbrev pub IsSet : List ℕ → List ℕ → Session → Session → Token → Type 0
  IsSet k v old new r = (value : Bor (List ℕ)) × (value.now ≡ v) × IsKeyed l keyspace k (ask.Set value plain) now most old new r

  -- keys and values in turn, of which each key was set
  abbrev pub AreSet : List (List ℕ) → Session → Session → Type 0
  AreSet [] old new = old ≡ new
  AreSet (k ∷ []) old new = ⊥
  AreSet (k ∷ v ∷ rest) old new = (mid : Session) × (r : Token) × IsSet k v old mid r × (token r ≡ ok) × AreSet rest mid new

  -- the reply is OK; or the first that is not, which is an error, and the pairs after it are left
  abbrev pub IsSetEach : List (List ℕ) → Session → Session → Token → Type 0
  IsSetEach pairs old new r = ((before rest : List (List ℕ)) × (pairs ≡ before ++ rest) × (length rest < 2) × AreSet before old new × (r ≡ Simple (codes "OK")))
      ⊎ ((before : List (List ℕ)) × (k v : List ℕ) × (rest : List (List ℕ)) × (mid : Session) × (pairs ≡ before ++ k ∷ v ∷ rest) × AreSet before old mid × IsSet k v mid new r × (token r ≢ ok))
