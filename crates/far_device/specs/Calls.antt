-- What each call does to a device's state.
use Rattle.std.specs.Prelude.{◌≡◌, ◌≢◌, ℕ, ◌+◌, ◌-◌, ◌^◌, min, Bool, true, false, IsTrue, List, ◌++◌, Option, Some, None, Result, Ok, Err, IfOk, OnOk, OnErr, IfSome, IfNone}
use Rattle.std.specs.Bool.{OnTrue, OnFalse}
use Rattle.std.specs.FinMap.{empty, get, contains_key, insert, remove}
use Rattle.far_device.specs.declared.fault.DeviceFault.{DeviceFault}
use Rattle.far_device.specs.declared.fault.DeviceFault.TheVariants.{Memory, Failed}
use Rattle.far_device.specs.DeviceState.{DeviceState, SameExceptAt}

-- a failure adds one to the count, and a count of 2^64 - 1 stays; no other answer changes it
abbrev pub count_after : {T : Type 0} → Result T DeviceFault → ℕ → ℕ
count_after (Ok answer) count = count
count_after (Err Memory) count = count
count_after (Err Failed) count = min (count + 1) (2 ^ 64 - 1)

-- after is before with some bytes at its end
abbrev pub Appends : List ℕ → List ℕ → Type 0
Appends before after = (bytes : List ℕ) × (after ≡ before ++ bytes)

-- after a fault nothing is known of the contents
pub record Constructs (old new : DeviceState) (result : Result (Unit {0}) DeviceFault) : Type 0 where
  pub emptied : OnOk result (new.contents ≡ empty)
  pub counted : new.failures ≡ count_after result old.failures

-- after a fault nothing is known of what the id has
pub record Writes {T : Type 0} (old new : DeviceState) (id : ℕ) (bytes : List ℕ) (result : Result T DeviceFault) : Type 0 where
  pub written : OnOk result (new.contents ≡ insert old.contents id bytes)
  pub others : OnErr result (SameExceptAt old.contents new.contents id)
  pub counted : new.failures ≡ count_after result old.failures

-- before and after are what the caller's vector holds;
-- where the device is honest, what the vector gains is what was written
pub record Reads (is_honest : Bool) (old new : DeviceState) (id : ℕ) (before after : List ℕ) (result : Result Bool DeviceFault) : Type 0 where
  pub found : IfOk result (λ there. there ≡ contains_key old.contents id)
  pub appended : IfOk result (λ there. OnTrue there (Appends before after))
  pub honest : IsTrue is_honest → IfOk result (λ there. OnTrue there (IfSome (get old.contents id) (λ bytes. after ≡ before ++ bytes)))
  pub absent : IfOk result (λ there. OnFalse there (after ≡ before))
  pub fault : OnErr result (after ≡ before)
  pub kept : new.contents ≡ old.contents
  pub counted : new.failures ≡ count_after result old.failures

-- after a fault nothing is known of what the id has
pub record Removes (old new : DeviceState) (id : ℕ) (result : Result Bool DeviceFault) : Type 0 where
  pub found : IfOk result (λ there. there ≡ contains_key old.contents id)
  pub removed : OnOk result (new.contents ≡ remove old.contents id)
  pub others : OnErr result (SameExceptAt old.contents new.contents id)
  pub counted : new.failures ≡ count_after result old.failures

-- ---- labels: a number beside the bytes of an id

-- each id's label, if it has one
abbrev pub Labels : Type 0
Labels = ℕ → Option ℕ

-- no id has a label
abbrev pub AreNone : Labels → Type 0
AreNone labels = (id : ℕ) → labels id ≡ None

-- each id has the label that it had
abbrev pub AreSame : Labels → Labels → Type 0
AreSame old new = (id : ℕ) → new id ≡ old id

-- this id has this label or none, and each other id the one that it had
pub record Relabels (old new : Labels) (id : ℕ) (label : Option ℕ) : Type 0 where
  pub here : new id ≡ label
  pub others : (other : ℕ) → other ≢ id → new other ≡ old other

-- the label that a write leaves: only one that is answered to be kept
abbrev pub label_after : Result Bool DeviceFault → ℕ → Option ℕ
label_after (Ok true) label = Some label
label_after (Ok false) label = None
label_after (Err fault) label = None

-- as a read, of an id that has a label, which is answered; and where it has none, nothing is read
pub record ReadsLabelled (is_honest : Bool) (old new : DeviceState) (label : Option ℕ) (id : ℕ) (before after : List ℕ) (result : Result (Option ℕ) DeviceFault) : Type 0 where
  pub found : IfOk result (λ answer. answer ≡ label)
  pub appended : IfOk result (λ answer. IfSome answer (λ there. Appends before after))
  pub honest : IsTrue is_honest → IfOk result (λ answer. IfSome answer (λ there. IfSome (get old.contents id) (λ bytes. after ≡ before ++ bytes)))
  pub absent : IfOk result (λ answer. IfNone answer (after ≡ before))
  pub fault : OnErr result (after ≡ before)
  pub kept : new.contents ≡ old.contents
  pub counted : new.failures ≡ count_after result old.failures
