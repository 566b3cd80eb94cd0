-- What contracts see of passes, names and spares, and what calls tell of the logs that they have seen.
use Rattle.std.specs.Prelude.{◌≡◌, ◌≢◌, ℕ, ◌+◌, ◌<◌, ◌≤◌, ◌==◌, Bool, true, false, if◌then◌else◌, List, [], ◌∷◌, ◌++◌, length, Option, Some, None, ⊤, ◌⊎◌, map}
use Rattle.std.specs.List.{filter, All, AllByRecursion}
use Rattle.std.specs.Map.{keys_of}
use mathlib.Core.List.{IsPrefix}
use Rattle.far_object.specs.Buckets.{bucket}
use Rattle.table_core.specs.declared.event.Event.{Event}
use Rattle.table_core.specs.declared.event.Event.TheVariants.{Done, Moved}
use Rattle.table_core.specs.declared.operation.Operation.{Operation}
use Rattle.table_core.specs.declared.operation.Operation.TheVariants as op
use Rattle.table_core.specs.declared.limits.Limits.{Limits}
use Rattle.table_core.specs.BucketWords.{name_of, place_of, empty_place, far_place}
use Rattle.table_core.specs.Maps.{value_at, is_met, after, map_of, reply}
use Rattle.table_core.specs.Limits.{last_name}
use Rattle.table_core.specs.Logs.{history, passes_of, word}
use Rattle.table_core.specs.Lawful.{IsDrawn, IsLawful}
use Rattle.table_core.specs.Lent.{lent_value}
use Rattle.version_words.specs.declared.change.Change.{Change}
use Rattle.version_words.specs.declared.change.Change.TheVariants as change
use Rattle.version_words.specs.declared.change.Probe.{Probe}
use Rattle.version_words.specs.declared.change.Probe.TheVariants as probe
use Rattle.logbook.specs.Pages.{Book}
use Rattle.version_words.specs.declared.sizes.Sizes.{Sizes}
use Rattle.version_words.specs.Boards.{Slot, board_at}

-- a row that was opened: what proofs call its log and its boards, and its sizes
pub record OpenedView : Type 0 where
  pub book : Book
  pub names : List ℕ
  pub sizes : Sizes

-- a pass: the log that it has seen, and its number
pub record PassView (K V : Type 0) : Type 0 where
  pub front : List (Event K V)
  pub number : ℕ

-- a name: its number, its bucket, and the log in which it was drawn
pub record NameView (K V : Type 0) : Type 0 where
  pub number : ℕ
  pub bucket : ℕ
  pub front : List (Event K V)

-- a word that its bucket doesn't hold, and the log that says so
pub record SpareView (K V : Type 0) : Type 0 where
  pub word : ℕ
  pub bucket : ℕ
  pub front : List (Event K V)

module _ {K V : Type 0} where
  abbrev pub name_of_parts : ℕ → ℕ → List (Event K V) → NameView K V
  name_of_parts n b log = record { number = n; bucket = b; front = log }

-- ---- calls

module _ {K V : Type 0} where
  -- the calls of a pass that a log has, in order
  abbrev pub calls_of : ℕ → List (Event K V) → List (Operation K V)
  calls_of p log = map (λ call. call.1) (filter (λ call. call.0 == p) (history log))

  -- the calls that a pass has made
  abbrev pub calls : PassView K V → List (Operation K V)
  calls pass = calls_of pass.number pass.front

  -- the pass is the same and has made no call, and its front begins with the old one
  pub record Goes (old new : PassView K V) : Type 0 where
    pub number : new.number ≡ old.number
    pub grows : IsPrefix old.front new.front
    pub calls_stay : calls new ≡ calls old

  -- the same, but for this one call more
  pub record Calls (old new : PassView K V) (o : Operation K V) : Type 0 where
    pub number : new.number ≡ old.number
    pub grows : IsPrefix old.front new.front
    pub call_added : calls new ≡ calls old ++ o ∷ []

  -- the log has all calls of the pass: those that it has made
  pub record IsWhole (log : List (Event K V)) (pass : PassView K V) : Type 0 where
    pub seen : IsPrefix pass.front log
    pub all : calls_of pass.number log ≡ calls pass

  -- the pass is one of the first n that were drawn
  abbrev pub IsNumbered : ℕ → PassView K V → Type 0
  IsNumbered n pass = (0 < pass.number) × (pass.number ≤ n)

  -- the pass is none of the others, by its number
  abbrev pub AreNone : PassView K V → List (PassView K V) → Type 0
  AreNone pass others = AllByRecursion (λ other. pass.number ≢ other.number) others

  -- no two of them have one number
  abbrev pub AreApart : List (PassView K V) → Type 0
  AreApart [] = ⊤
  AreApart (pass ∷ others) = AreNone pass others × AreApart others

-- ---- logs

module _ {K V : Type 0} where
  -- the log begins with what was seen, and ends with the event
  abbrev pub EndsWith : List (Event K V) → Event K V → List (Event K V) → Type 0
  EndsWith seen e log = (before : List (Event K V)) × (log ≡ before ++ e ∷ []) × IsPrefix seen before

module _ {K V : Type 0} (ek : K → List ℕ) (buckets : ℕ) where
  -- the word stood in the bucket at a beginning of the log
  abbrev pub WasSeen : List (Event K V) → ℕ → ℕ → Type 0
  WasSeen log b w = (looked : List (Event K V)) × IsPrefix looked log × (word ek buckets looked b ≡ w)

  -- the log begins with what was seen and ends with the event, and just before it the bucket's word was the old one
  abbrev pub Follows : List (Event K V) → ℕ → ℕ → Event K V → List (Event K V) → Type 0
  Follows seen b old e log = (before : List (Event K V)) × (log ≡ before ++ e ∷ []) × IsPrefix seen before × (word ek buckets before b ≡ old)

module _ {K V : Type 0} (ek : K → List ℕ) (ev : V → List ℕ) where
  -- the log begins with what was seen and ends with the pass's call, which the map of the calls before it answers so
  abbrev pub IsAnswered : List (Event K V) → ℕ → Operation K V → Option V → List (Event K V) → Type 0
  IsAnswered seen pass o answer log =
      (before : List (Event K V)) × (w : Option ℕ) × (log ≡ before ++ Done pass o w ∷ []) × IsPrefix seen before
      × (answer ≡ reply ek (map_of ek ev (history before)) o)

-- ---- changes

module _ {K V : Type 0} where
  -- the operation of a probe
  abbrev pub probed : Probe K V → Operation K V
  probed (probe.Get k) = op.Get k.now
  probed (probe.Remove k) = op.Remove k.now
  probed (probe.PutIf k expected v) = op.PutIf k.now (lent_value expected) v.now

  -- the operation of a change; a move has none
  abbrev pub operation_of : Change K V → Option (Operation K V)
  operation_of (change.Put k v) = Some (op.Put k.now v.now)
  operation_of (change.Remove k) = Some (op.Remove k.now)
  operation_of (change.PutIf k expected v) = Some (op.PutIf k.now (lent_value expected) v.now)
  operation_of change.Move = None

  abbrev pub installing : ℕ → ℕ → ℕ → Option (Operation K V) → Event K V
  installing pass b w (Some o) = Done pass o (Some w)
  installing pass b w None = Moved b w

  -- the pass has made the call of the change, if it is one
  abbrev pub MakesCall : Option (Operation K V) → PassView K V → PassView K V → Type 0
  MakesCall (Some o) old new = Calls old new o
  MakesCall None old new = Goes old new

module _ {K V : Type 0} (ek : K → List ℕ) (buckets : ℕ) where
  -- the keys of the pairs are in the bucket
  abbrev pub AreOfBucket : ℕ → List (K × V) → Type 0
  AreOfBucket b es = All (λ k. bucket ek buckets k ≡ b) (keys_of es)

  -- the operation's key is in the bucket
  abbrev pub IsOfBucket : ℕ → Option (Operation K V) → Type 0
  IsOfBucket b (Some o) = bucket ek buckets (Rattle.table_core.specs.Maps.key_of o) ≡ b
  IsOfBucket b None = ⊤

module _ {K V : Type 0} (ek : K → List ℕ) (ev : V → List ℕ) where
  -- what a change makes of contents: what its operation does, and a move nothing
  abbrev pub changed : List (K × V) → Option (Operation K V) → List (K × V)
  changed es (Some o) = after ek ev es o
  changed es None = es

  -- the probe's operation leaves the contents: a key that is removed isn't there, and an expected value isn't met
  abbrev pub ChangesNothing : List (K × V) → Operation K V → Type 0
  ChangesNothing es (op.Put k v) = ⊥
  ChangesNothing es (op.Get k) = ⊤
  ChangesNothing es (op.Remove k) = value_at ek k es ≡ None
  ChangesNothing es (op.PutIf k expected v) = is_met ev expected (value_at ek k es) ≡ false

-- ---- names and spares

-- whether the word's place is a frame or the device
abbrev pub has_object : ℕ → Bool
has_object w = if w == 0 then false else (if place_of w == empty_place then false else true)

-- a change that is no call moves an object: from the device to a frame, or from a frame to the device
abbrev pub MovesObject : {K V : Type 0} → Option (Operation K V) → ℕ → ℕ → Type 0
MovesObject (Some o) old place = ⊤
MovesObject None old place =
    (has_object old ≡ true)
    × (((place_of old ≡ far_place) × (place < empty_place)) ⊎ ((place_of old < empty_place) × (place ≡ far_place)))

module _ {K V : Type 0} where
  -- the old word as a spare, where it has an object
  abbrev pub spare_of : ℕ → ℕ → List (Event K V) → Option (SpareView K V)
  spare_of b w log = if has_object w then Some (record { word = w; bucket = b; front = log }) else None

module _ {K V : Type 0} (ek : K → List ℕ) (ev : V → List ℕ) (l : Limits) where
  -- the name was drawn for the bucket, and is newer than the bucket's word there
  pub record IsName (name : NameView K V) : Type 0 where
    pub drawn : IsDrawn name.front name.number name.bucket
    pub newer : name_of (word ek l.buckets name.front name.bucket) < name.number
    pub small : name.number ≤ last_name
    pub here : name.bucket < l.buckets
    pub lawful : IsLawful ek ev l name.front

  -- the bucket's word is another one, in the log and in each longer one
  abbrev pub IsGone : List (Event K V) → ℕ → ℕ → Type 0
  IsGone seen b w = (log : List (Event K V)) → IsLawful ek ev l log → IsPrefix seen log → word ek l.buckets log b ≢ w

-- ---- what passes, names and spares hold

-- the slot holds the tally of the pass or the name k, at n
pub record IsTally (s : Slot) (k n : ℕ) : Type 0 where
  pub held : 0 < s.held
  pub key : s.key + 1 ≡ k
  pub count : s.count ≡ n

module _ {K V : Type 0} where
  -- a pass has entered, and holds the tally of its calls
  pub record IsPass (names : List ℕ) (log : List (Event K V)) (number board : ℕ) (s : Slot) : Type 0 where
    pub first : 0 < number
    pub last : number ≤ passes_of log
    pub board_is : board ≡ board_at names 0
    pub tally : IsTally s number (length (calls_of number log))

-- a name holds the tally of its installs: none
pub record IsRight (names : List ℕ) (number board : ℕ) (s : Slot) : Type 0 where
  pub board_is : board ≡ board_at names 1
  pub tally : IsTally s number 0
