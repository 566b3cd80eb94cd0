-- The receipt goes, whatever the device answers.
use Rattle.lane_store.specs.Lanes.{log_of}
use Rattle.lane_store.proofs.Stored.{sound_dropped, same_removed}
use Rattle.lane_store.proofs.lane.Lane.forget.Goals as goal

pub invariant_of-self : goal.invariant_of-self
invariant_of-self g c =
    sound_dropped g.K.FarObject.enc g.V.FarObject.enc g.K.FarObject.admits g.V.FarObject.admits g.J.Naming.limits (g.D.Device.state c.self.inside.device).contents (g.D.Device.state c.remove-2.new.self).contents (g.D.Device.labels c.self.inside.device) (g.D.Device.labels c.remove-2.new.self)
    c.self.inside.buckets.entries c.remove.new.self.entries (log_of c.self.inside.seen) c.self.inside.labelled c.args.name c.self.invariant c.remove-2.ensures.unlabelled c.remove.ensures.updates.0 c.in_err-remove.ensures.removes.others

pub returns-in_err-remove-clause-stored : goal.returns-in_err-remove-clause-stored
returns-in_err-remove-clause-stored g c = (invariant_of-self g c).0

pub invariant_of-self-2 : goal.invariant_of-self-2
invariant_of-self-2 g c =
    sound_dropped g.K.FarObject.enc g.V.FarObject.enc g.K.FarObject.admits g.V.FarObject.admits g.J.Naming.limits (g.D.Device.state c.self.inside.device).contents (g.D.Device.state c.remove-2.new.self).contents (g.D.Device.labels c.self.inside.device) (g.D.Device.labels c.remove-2.new.self)
    c.self.inside.buckets.entries c.remove.new.self.entries (log_of c.self.inside.seen) c.self.inside.labelled c.args.name c.self.invariant c.remove-2.ensures.unlabelled c.remove.ensures.updates.0
    (same_removed (g.D.Device.state c.self.inside.device).contents (g.D.Device.state c.remove-2.new.self).contents c.args.name c.in_ok-remove.ensures.removes.removed)

pub returns-clause-stored : goal.returns-clause-stored
returns-clause-stored g c = (invariant_of-self-2 g c).0
