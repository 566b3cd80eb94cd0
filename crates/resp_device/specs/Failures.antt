-- What becomes of the pipes at a failure.
use Rattle.std.specs.Prelude.{◌≡◌, Bool, true, false, Option, Some, Result, Ok, Err}
use Rattle.far_device.specs.declared.fault.DeviceFault.{DeviceFault}
use Rattle.far_device.specs.declared.fault.DeviceFault.TheVariants as device
use Rattle.resp_device.specs.declared.fault.StoreFailure.{StoreFailure}
use Rattle.resp_device.specs.declared.fault.StoreFailure.TheVariants.{TooLong, Refused, Lost, Damaged, Wrong, Malformed, Surplus, Ended, Read, Write, Memory, Broken}

-- whether they can be used behind it, where they could be or not
abbrev pub live_after : StoreFailure → Bool → Bool
live_after TooLong live = live
live_after Refused live = true
live_after Lost live = true
live_after Damaged live = true
live_after Wrong live = false
live_after Malformed live = false
live_after Surplus live = false
live_after Ended live = false
live_after (Read kind) live = false
live_after (Write kind) live = false
live_after Memory live = false
live_after Broken live = false

-- they can be used no more behind it
abbrev pub Breaks : StoreFailure → Type 0
Breaks why = (live : Bool) → live_after why live ≡ false

-- a call that does not fail leaves them as they were, and one that fails as its failure says, which stands as the last one
abbrev pub LivesOn : {T : Type 0} → Result T DeviceFault → Option StoreFailure → (old new : Bool) → Type 0
LivesOn (Ok answer) last old new = new ≡ old
LivesOn (Err device.Memory) last old new = new ≡ old
LivesOn (Err device.Failed) last old new = (why : StoreFailure) × (last ≡ Some why) × (new ≡ live_after why old)
