-- Where the object could not be spelled out, an older one goes.
use Rattle.lane_store.proofs.Stored.{same_removed}
use Rattle.lane_store.proofs.lane.write_to.Goals as goal

pub returns-then-is_err-clause-others : goal.returns-then-is_err-clause-others
returns-then-is_err-clause-others g c =
    rw c.number-number.ensures at (same_removed (g.D.Device.state c.args.device.now).contents (g.D.Device.state c.remove.new.self).contents c.number-number.result c.in_ok-remove-in-Two.ensures.removes.removed)
