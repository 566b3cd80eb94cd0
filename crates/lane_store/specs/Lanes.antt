-- What a lane holds, and what each call does to it.
use Rattle.std.specs.Prelude.{◌≡◌, ◌≢◌, ℕ, ◌+◌, ◌-◌, ◌^◌, min, nat_eq, Bool, true, false, cond, IsTrue, List, [], ◌++◌, Option, Some, None, option_map, Result, Ok, Err, IfOk, OnOk, OnErr, IfSome, IfNone}
use Rattle.std.specs.Map.{lookup}
use mathlib.Core.List.{IsPrefix}
use Rattle.std.specs.FinMap.{empty, get, contains_key, insert, remove}
use Rattle.far_object.specs.declared.format.Format.{Format}
use Rattle.far_object.specs.Formats.{spelling}
use Rattle.far_object.specs.Objects.{IsMap}
use Rattle.far_device.specs.declared.fault.DeviceFault.{DeviceFault}
use Rattle.far_device.specs.declared.fault.DeviceFault.TheVariants as device
use Rattle.far_device.specs.DeviceState.{DeviceState, Contents, SameExceptAt}
use Rattle.far_device.specs.Calls.{Appends, Labels}
use Rattle.table_core.specs.declared.event.Event.{Event}
use Rattle.table_core.specs.declared.limits.Limits.{Limits}
use Rattle.table_core.specs.Logs.{contents}
use Rattle.version_words.specs.Views.{NameView, name_of_parts}
use Rattle.version_words.specs.Shown.{Shown, shown, IsOwn}
use Rattle.lane_store.specs.declared.fault.LaneFault.{LaneFault}
use Rattle.lane_store.specs.declared.fault.LaneFault.TheVariants.{Memory, Device}

-- ---- faults

-- the lane's fault where its device has this one
abbrev pub lane_fault : DeviceFault → LaneFault
lane_fault device.Memory = Memory
lane_fault device.Failed = Device

-- a failure of the device adds one to its count, and a count of 2^64 - 1 stays; no other answer changes it
abbrev pub failures_after : {T : Type 0} → Result T LaneFault → ℕ → ℕ
failures_after (Ok answer) count = count
failures_after (Err Memory) count = count
failures_after (Err Device) count = min (count + 1) (2 ^ 64 - 1)

-- the label that a write leaves: only one that is answered to be kept
abbrev pub label_kept : Result Bool LaneFault → ℕ → Option ℕ
label_kept (Ok true) label = Some label
label_kept (Ok false) label = None
label_kept (Err fault) label = None

-- ---- what a lane holds

-- the log of a mark, and none before the first
abbrev pub log_of : {K V : Type 0} → Option (List (Event K V)) → List (Event K V)
log_of None = []
log_of (Some log) = log

-- a lane: its device, the buckets that it keeps itself, each with the number of its name, and a log in which all names were drawn
pub record LaneView (K V D : Type 0) : Type 0 where
  pub device : D
  pub buckets : List (ℕ × ℕ)
  pub log : List (Event K V)

abbrev pub either : Option ℕ → Option ℕ → Option ℕ
either None other = other
either (Some b) other = Some b

-- the bucket of the name of this number: the label that the device has, or else what the lane keeps
abbrev pub bucket_of : Labels → List (ℕ × ℕ) → ℕ → Option ℕ
bucket_of labels buckets n = either (labels n) (lookup (nat_eq n) buckets)

-- new has r at the number n, and else what old has
abbrev pub ChangedAt : List (ℕ × ℕ) → List (ℕ × ℕ) → ℕ → Option ℕ → Type 0
ChangedAt old new n r = (m : ℕ) → lookup (nat_eq m) new ≡ cond (nat_eq n m) r (lookup (nat_eq m) old)

module _ {K V D : Type 0} (labels : D → Labels) where
  -- the bucket of the name whose receipt stands at this number
  abbrev pub bucket_at : LaneView K V D → ℕ → Option ℕ
  bucket_at lane n = bucket_of (labels lane.device) lane.buckets n

  -- the receipt that stands at this number
  abbrev pub receipt_at : LaneView K V D → ℕ → Option (NameView K V)
  receipt_at lane n = option_map (λ b. name_of_parts n b lane.log) (bucket_at lane n)

  -- at each number but this one, new has the bucket that old has there
  abbrev pub SameBucketsExceptAt : LaneView K V D → LaneView K V D → ℕ → Type 0
  SameBucketsExceptAt old new n = (other : ℕ) → other ≢ n → bucket_at new other ≡ bucket_at old other

module _ {K V : Type 0} where
  -- the version of a name
  abbrev pub version_of : NameView K V → Shown K V
  version_of name = shown (contents name.front name.number) name.bucket name.number name.front

module _ {K V : Type 0} (ek : K → List ℕ) (ev : V → List ℕ) (AK : K → Type 0) (AV : V → Type 0) where
  -- the bytes are the object of the name's contents, in one of the two formats
  pub record Spells (name : NameView K V) (bytes : List ℕ) : Type 0 where
    pub format : Format
    pub is : bytes ≡ spelling ek ev format name.bucket name.number (contents name.front name.number)
    pub map : IsMap ek AK AV (contents name.front name.number)

  module _ (l : Limits) where
    -- what a receipt says: the name was drawn for the bucket, and under its number the device keeps its object
    pub record IsStored (kept : Contents) (name : NameView K V) : Type 0 where
      pub own : IsOwn ek ev l (version_of name)
      pub bytes : List ℕ
      pub there : get kept name.number ≡ Some bytes
      pub spelled : Spells name bytes

    -- each receipt stands for a stored object
    abbrev pub AreStored : Contents → (ℕ → Option ℕ) → List (Event K V) → Type 0
    AreStored kept bucket log = (n b : ℕ) → bucket n ≡ Some b → IsStored kept (name_of_parts n b log)

-- ---- calls

module _ {K V D : Type 0} (state : D → DeviceState) (labels : D → Labels) where
  -- a lane that was opened: no receipt, and nothing on the device
  pub record IsOpened (device : D) (lane : LaneView K V D) : Type 0 where
    pub none : (n : ℕ) → receipt_at labels lane n ≡ None
    pub nothing : (state lane.device).contents ≡ empty
    pub counted : (state lane.device).failures ≡ (state device).failures

  module _ (ek : K → List ℕ) (ev : V → List ℕ) where
    -- after a fault no receipt stands for the name, and nothing is known of what the device has there
    pub record Writes (old new : LaneView K V D) (name : NameView K V) (format : Format) (result : Result (Unit {0}) LaneFault) : Type 0 where
      pub receipt : OnOk result (receipt_at labels new name.number ≡ Some (name_of_parts name.number name.bucket new.log))
      pub drawn : OnOk result (IsPrefix name.front new.log)
      pub stored : OnOk result
          ((state new.device).contents ≡ insert (state old.device).contents name.number (spelling ek ev format name.bucket name.number (contents name.front name.number)))
      pub none : OnErr result (receipt_at labels new name.number ≡ None)
      pub other_receipts : SameBucketsExceptAt labels old new name.number
      pub grows : IsPrefix old.log new.log
      pub other_ids : OnErr result (SameExceptAt (state old.device).contents (state new.device).contents name.number)
      pub counted : (state new.device).failures ≡ failures_after result (state old.device).failures

    module _ (AK : K → Type 0) (AV : V → Type 0) where
      -- before and after are what the caller's vector holds; the receipt that stands is answered, and none only where none stands;
      -- where the device is honest, what the vector gains is the object of the receipt's name
      pub record Reads (is_honest : Bool) (old new : LaneView K V D) (n : ℕ) (before after : List ℕ) (result : Result (Option (NameView K V)) LaneFault) : Type 0 where
        pub found : IfOk result (λ receipt. receipt ≡ receipt_at labels old n)
        pub appended : IfOk result (λ receipt. IfSome receipt (λ name. Appends before after))
        pub honest : IsTrue is_honest → IfOk result (λ receipt. IfSome receipt (λ name.
            (bytes : List ℕ) × (get (state old.device).contents n ≡ Some bytes) × (after ≡ before ++ bytes) × Spells ek ev AK AV name bytes))
        pub absent : IfOk result (λ receipt. IfNone receipt (after ≡ before))
        pub fault : OnErr result (after ≡ before)
        pub receipts_stay : (m : ℕ) → receipt_at labels new m ≡ receipt_at labels old m
        pub kept : (state new.device).contents ≡ (state old.device).contents
        pub counted : (state new.device).failures ≡ failures_after result (state old.device).failures

  -- no receipt stands for the name; after a fault nothing is known of what the device has there
  pub record Removes (old new : LaneView K V D) (n : ℕ) (result : Result Bool LaneFault) : Type 0 where
    pub found : IfOk result (λ there. there ≡ contains_key (state old.device).contents n)
    pub removed : OnOk result ((state new.device).contents ≡ remove (state old.device).contents n)
    pub none : receipt_at labels new n ≡ None
    pub other_receipts : (other : ℕ) → other ≢ n → receipt_at labels new other ≡ receipt_at labels old other
    pub other_ids : OnErr result (SameExceptAt (state old.device).contents (state new.device).contents n)
    pub counted : (state new.device).failures ≡ failures_after result (state old.device).failures

-- ---- behind a lock

module _ {K V : Type 0} (ek : K → List ℕ) (ev : V → List ℕ) (AK : K → Type 0) (AV : V → Type 0) (l : Limits) where
  -- what a reading tells of a lane that no clause can name: the receipt is that of a name which was drawn under the number asked for,
  -- and where the device is honest, what the vector gains is its object
  pub record IsRead (is_honest : Bool) (n : ℕ) (before after : List ℕ) (name : NameView K V) : Type 0 where
    pub number : name.number ≡ n
    pub own : IsOwn ek ev l (version_of name)
    pub appended : Appends before after
    pub honest : IsTrue is_honest → (bytes : List ℕ) × (after ≡ before ++ bytes) × Spells ek ev AK AV name bytes
