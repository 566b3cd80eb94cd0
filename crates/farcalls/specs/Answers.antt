-- What a request does with its session, and what it is replied.
use Rattle.std.specs.Prelude.{◌≡◌, ◌≢◌, ◌⊎◌, ◌<◌, ◌+◌, ◌-◌, ◌*◌, pos, ℕ, zero, suc, Bool, true, false, List, [], ◌∷◌, ◌++◌, length, map, codes, Option, Some, None, Result, Ok, Err, ⊤}
use Rattle.std.specs.List.{flat_map}
use Rattle.std.specs.Option.{is_some}
use Rattle.far_blob.specs.Encodings.{enc_blob}
use Rattle.table_core.specs.declared.limits.Limits.{Limits}
use Rattle.table_core.specs.declared.operation.Operation.TheVariants as op
use Rattle.commands.specs.Arguments.{listed}
use Rattle.resp.specs.Replies.{Token, Failure, Number, Count, token}
use Rattle.far_map.specs.declared.refusal.MapRefusal.{MapRefusal}
use Rattle.far_map.specs.declared.refusal.MapRefusal.TheVariants as refusal
use Rattle.far_map.specs.declared.refusal.Lack.TheVariants as lack
use Rattle.far_map.specs.Many.{AreGot}
use Rattle.far_map.specs.Visits.{AreOfBucket}
use Rattle.farcalls.specs.declared.reason.FarReason.{FarReason}
use Rattle.farcalls.specs.declared.reason.FarReason.TheVariants as reason
use Rattle.farcalls.specs.declared.request.Request.{Request}
use Rattle.farcalls.specs.declared.request.Request.TheVariants as request
use Rattle.farcalls.specs.declared.refusal.Unanswered.{Unanswered}
use Rattle.farcalls.specs.declared.refusal.Unanswered.TheVariants as unanswered
use Rattle.farcalls.specs.Sessions.{Session, Call, Called, Stays, Makes}
use Rattle.farcalls.specs.Requests.{Spells, IsUnread}
use Rattle.farcalls.specs.Tokens.{value_token, flag_token, number_token, pair_tokens, IsIfReply}
use Rattle.farcalls.specs.Calls.{IsUnmade}

-- the error if a device failed, for this reason
abbrev pub device_text : FarReason → List ℕ
device_text reason.Unknown = codes "DEVICE a device failed"
device_text reason.NoSpace = codes "DEVICE no space left on device"
device_text reason.InputOutput = codes "DEVICE input/output error"
device_text reason.PermissionDenied = codes "DEVICE permission denied"
device_text reason.ReadOnly = codes "DEVICE read-only file system"
device_text reason.Missing = codes "DEVICE no such file or directory"
device_text reason.Damaged = codes "DEVICE an object is damaged"
device_text reason.Other = codes "DEVICE other error"

-- the error if no device takes an object: there is none, or it failed
abbrev pub unkept_text : Bool → FarReason → List ℕ
unkept_text true known = device_text known
unkept_text false known = codes "FULL the memory is full; give the map more, or a folder"

-- the error for a refusal of the map
abbrev pub refusal_text : Bool → FarReason → MapRefusal → List ℕ
refusal_text is_far known refusal.TooLong = codes "TOOLONG the pairs of the key's bucket would have more than 16 MiB"
refusal_text is_far known (refusal.Full lack.Frame) = codes "FULL all frames are in use; give the map more memory"
refusal_text is_far known (refusal.Full lack.Spare) = codes "FULL too many old versions are still read, try again"
refusal_text is_far known refusal.NamesSpent = codes "SPENT the map is being renewed, try again"
refusal_text is_far known refusal.Device = unkept_text is_far known
refusal_text is_far known refusal.Damaged = codes "DAMAGED a device gave back damaged bytes"
refusal_text is_far known refusal.Memory = codes "MEMORY memory was refused"

-- the error that is replied. Only the one for a device has its reason, of which nothing is proved.
abbrev pub error_text : Bool → FarReason → Unanswered → List ℕ
error_text is_far known (unanswered.Refused why) = refusal_text is_far known why
error_text is_far known unanswered.NoRoom = unkept_text is_far known
error_text is_far known unanswered.KeyTooLong = codes "KEYTOOLONG a key has at most 65535 bytes"
error_text is_far known unanswered.ValueTooLong = codes "VALUETOOLONG a value has at most 16 MiB"
error_text is_far known unanswered.ReplyTooLong = codes "REPLYTOOLONG the values have more than 64 MiB; ask for fewer keys at once"
error_text is_far known unanswered.Lost = codes "LOST the change was made, but memory was refused for its answer"

abbrev pub unknown_text : List ℕ
unknown_text = codes "UNKNOWN no such request, or another number of arguments"

-- LEN: some number is replied, of which nothing is proved
abbrev pub RepliesLength : Session → Session → List Token → Type 0
RepliesLength old new rs = (old ≡ new) × ((n : ℕ) × (rs ≡ number_token n ∷ []))

-- STATS: so many numbers are replied, of which nothing is proved
abbrev pub RepliesStats : Session → Session → List Token → Type 0
RepliesStats old new rs = (old ≡ new) × ((ns : List ℕ) × (length ns ≡ 23) × (rs ≡ Count 23 ∷ map number_token ns))

-- EVICT: whether an object was moved is replied
abbrev pub RepliesMove : Session → Session → List Token → Type 0
RepliesMove old new rs = Stays old new × ((moved : Bool) × (rs ≡ flag_token moved ∷ []))

-- a request that makes no call of the history was refused
abbrev pub IsRefused : Unanswered → Session → Session → Type 0
IsRefused why old new = Stays old new × ((refused : MapRefusal) × (why ≡ unanswered.Refused refused))

-- why a request of several keys may be cut off without a call
abbrev pub IsOfKeys : Unanswered → Type 0
IsOfKeys unanswered.KeyTooLong = ⊤
IsOfKeys unanswered.ReplyTooLong = ⊤
IsOfKeys (unanswered.Refused why) = why ≡ refusal.Memory
IsOfKeys _ = ⊥

-- a request was carried out, and its reply was pushed; or it was not, and nothing was pushed
abbrev pub IsHandled : (Session → Session → List Token → Type 0) → (Unanswered → Session → Session → Type 0) → Session → Session → List ℕ → List ℕ → Result (Unit {0}) Unanswered → Type 0
IsHandled Serves Fails old new before after (Ok done) = (rs : List Token) × (after ≡ before ++ flat_map token rs) × Serves old new rs
IsHandled Serves Fails old new before after (Err why) = (after ≡ before) × Fails why old new

module _ (l : Limits) where
  -- the call was made, and its answer is replied as a value
  abbrev pub RepliesValue : Call → Session → Session → List Token → Type 0
  RepliesValue o old new rs = (found : Option (List ℕ)) × Makes l o (Ok found) old new × (rs ≡ value_token found ∷ [])

  -- the call was made, and whether there was a value is replied
  abbrev pub RepliesFlag : Call → Session → Session → List Token → Type 0
  RepliesFlag o old new rs = (found : Option (List ℕ)) × Makes l o (Ok found) old new × (rs ≡ flag_token (is_some found) ∷ [])

  -- the call was made, and 1 is replied if it set the key; otherwise the value that the key has
  abbrev pub RepliesIf : List ℕ → Option (List ℕ) → List ℕ → Session → Session → List Token → Type 0
  RepliesIf k expected v old new rs = (found : Option (List ℕ)) × Makes l (op.PutIf k expected v) (Ok found) old new × IsIfReply expected found rs

  -- the key was removed, and 1 is replied; or it was got, and its value is replied, which is another one
  abbrev pub RepliesRemoval : List ℕ → List ℕ → Session → Session → List Token → Type 0
  RepliesRemoval k e old new rs = (Makes l (op.Remove k) (Ok (Some e)) old new × (rs ≡ flag_token true ∷ []))
      ⊎ ((found : Option (List ℕ)) × (found ≢ Some e) × Makes l (op.Get k) (Ok found) old new × (rs ≡ value_token found ∷ []))

  -- the keys were got, one after another, and their values are replied
  abbrev pub RepliesEach : List (List ℕ) → Session → Session → List Token → Type 0
  RepliesEach ks old new rs = (answers : List (Option (List ℕ))) × AreGot enc_blob l ks answers old new × (rs ≡ Count (length ks) ∷ map value_token answers)

  -- so many buckets from this one on were empty, each at some moment
  abbrev pub AreEmpty : ℕ → ℕ → Session → Session → Type 0
  AreEmpty from zero old new = old ≡ new
  AreEmpty from (suc n) old new = (mid : Session) × AreEmpty from n old mid × Stays mid new × AreOfBucket enc_blob l (from + n) new.pass []

  -- These are the pairs of this bucket, as they were at one moment. All buckets from `from` up to it were empty.
  pub record IsFilled (from bucket : ℕ) (pairs : List (List ℕ × List ℕ)) (old new : Session) : Type 0 where
    pub skipped : ℕ
    pub mid : Session
    pub empty : AreEmpty from skipped old mid
    pub bucket_is : bucket ≡ from + skipped
    pub below : bucket < l.buckets
    pub stays : Stays mid new
    pub of_bucket : AreOfBucket enc_blob l bucket new.pass pairs

  -- The number of the next bucket is replied, and the pairs of this one.
  pub record IsVisited (from : ℕ) (old new : Session) (rs : List Token) : Type 0 where
    pub bucket : ℕ
    pub pairs : List (List ℕ × List ℕ)
    pub filled : IsFilled from bucket pairs old new
    pub reply : rs ≡ Count (2 * length pairs + 1) ∷ Number (pos (bucket + 1)) ∷ flat_map pair_tokens pairs

  -- All buckets from this one on were empty: the number of buckets is replied, and no pairs.
  pub record IsAtEnd (from : ℕ) (old new : Session) (rs : List Token) : Type 0 where
    pub empty : AreEmpty from (l.buckets - from) old new
    pub reply : rs ≡ Count 1 ∷ Number (pos l.buckets) ∷ []

  abbrev pub RepliesPairs : ℕ → Session → Session → List Token → Type 0
  RepliesPairs from old new rs = IsVisited from old new rs ⊎ IsAtEnd from old new rs

  -- what a request does, and what it is replied
  abbrev pub IsServed : Request → Session → Session → List Token → Type 0
  IsServed (request.Get k) old new rs = RepliesValue (op.Get k.now) old new rs
  IsServed (request.GetMany ks) old new rs = RepliesEach (listed ks) old new rs
  IsServed (request.Contains k) old new rs = RepliesFlag (op.Get k.now) old new rs
  IsServed (request.Put k v) old new rs = RepliesValue (op.Put k.now v.now) old new rs
  IsServed (request.Set k v) old new rs = RepliesFlag (op.Put k.now v.now) old new rs
  IsServed (request.PutIf k e v) old new rs = RepliesIf k.now (Some e.now) v.now old new rs
  IsServed (request.PutNew k v) old new rs = RepliesIf k.now None v.now old new rs
  IsServed (request.Remove k) old new rs = RepliesFlag (op.Remove k.now) old new rs
  IsServed (request.Take k) old new rs = RepliesValue (op.Remove k.now) old new rs
  IsServed (request.RemoveIf k e) old new rs = RepliesRemoval k.now e.now old new rs
  IsServed (request.Pairs from) old new rs = RepliesPairs from old new rs
  IsServed request.Length old new rs = RepliesLength old new rs
  IsServed request.Stats old new rs = RepliesStats old new rs
  IsServed request.Evict old new rs = RepliesMove old new rs

  -- no call was made, or the get of the first of these keys, which was refused
  abbrev pub IsStopped : List (List ℕ) → Unanswered → Session → Session → Type 0
  IsStopped rest why old new = (IsOfKeys why × (old ≡ new))
      ⊎ ((k : List ℕ) × (behind : List (List ℕ)) × (refused : MapRefusal) × (rest ≡ k ∷ behind) × (why ≡ unanswered.Refused refused) × Called l old new (op.Get k) (Err refused))

  -- some of the keys were got, one after another, and then one was not
  pub record AreCutOff (ks : List (List ℕ)) (why : Unanswered) (old new : Session) : Type 0 where
    pub before : List (List ℕ)
    pub behind : List (List ℕ)
    pub split : ks ≡ before ++ behind
    pub answers : List (Option (List ℕ))
    pub mid : Session
    pub got : AreGot enc_blob l before answers old mid
    pub stopped : IsStopped behind why mid new

  -- the key was not removed, or there was no memory for the reply
  abbrev pub IsUnremoved : List ℕ → List ℕ → Unanswered → Session → Session → Type 0
  IsUnremoved k e why old new = IsUnmade l (e ∷ []) (op.Remove k) why old new ⊎ IsUnmade l [] (op.Get k) why old new

  -- what a request does that is replied an error
  abbrev pub IsFailed : Request → Unanswered → Session → Session → Type 0
  IsFailed (request.Get k) why old new = IsUnmade l [] (op.Get k.now) why old new
  IsFailed (request.GetMany ks) why old new = AreCutOff (listed ks) why old new
  IsFailed (request.Contains k) why old new = IsUnmade l [] (op.Get k.now) why old new
  IsFailed (request.Put k v) why old new = IsUnmade l (v.now ∷ []) (op.Put k.now v.now) why old new
  IsFailed (request.Set k v) why old new = IsUnmade l (v.now ∷ []) (op.Put k.now v.now) why old new
  IsFailed (request.PutIf k e v) why old new = IsUnmade l (e.now ∷ v.now ∷ []) (op.PutIf k.now (Some e.now) v.now) why old new
  IsFailed (request.PutNew k v) why old new = IsUnmade l (v.now ∷ []) (op.PutIf k.now None v.now) why old new
  IsFailed (request.Remove k) why old new = IsUnmade l [] (op.Remove k.now) why old new
  IsFailed (request.Take k) why old new = IsUnmade l [] (op.Remove k.now) why old new
  IsFailed (request.RemoveIf k e) why old new = IsUnremoved k.now e.now why old new
  IsFailed (request.Pairs from) why old new = IsRefused why old new
  IsFailed request.Length why old new = IsRefused why old new
  IsFailed request.Stats why old new = IsRefused why old new
  IsFailed request.Evict why old new = IsRefused why old new

  module _ (is_far : Bool) where
    -- the reply to a request: what it asks for, or an error that says why not
    abbrev pub IsReplied : Request → Session → Session → List Token → Type 0
    IsReplied r old new rs = IsServed r old new rs
        ⊎ ((why : Unanswered) × (known : FarReason) × IsFailed r why old new × (rs ≡ Failure (error_text is_far known why) ∷ []))

    -- what became of these words: they spell a request, which was replied, or none, which is said
    abbrev pub IsAnswered : List (List ℕ) → Session → Session → List Token → Type 0
    IsAnswered words old new rs = ((r : Request) × Spells words r × IsReplied r old new rs)
        ⊎ (IsUnread words × (old ≡ new) × (rs ≡ Failure unknown_text ∷ []))
