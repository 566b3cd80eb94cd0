-- What only a write that was answered Ok tells.
use Rattle.std.specs.Prelude.{ℕ, List, Result, Ok, Err, OnOk}
use Rattle.far_object.specs.declared.format.Format.{Format}
use Rattle.far_device.specs.DeviceState.{DeviceState}
use Rattle.far_device.specs.Calls.{Labels}
use Rattle.version_words.specs.Views.{NameView}
use Rattle.lane_store.specs.declared.fault.LaneFault.{LaneFault}
use Rattle.lane_store.specs.Lanes.{LaneView, Writes}

-- a lane took the object of the bucket b under the name n, in this format. It is opaque: who promises it has had a lane write it, as the lemma below asks
pub WasStored : Format → ℕ → ℕ → Type 0
WasStored format b n = Unit {0}

-- a write of a lane tells it, where it answers Ok. Only `LaneStore::write` cites this
pub was_stored : {K V D : Type 0} (state : D → DeviceState) (labels : D → Labels) (ek : K → List ℕ) (ev : V → List ℕ) (old new : LaneView K V D) (name : NameView K V) (format : Format) (r : Result (Unit {0}) LaneFault)
    → Writes state labels ek ev old new name format r → OnOk r (WasStored format name.bucket name.number)
unfolding WasStored
was_stored state labels ek ev old new name format (Ok answer) w = tt
was_stored state labels ek ev old new name format (Err fault) w = tt
