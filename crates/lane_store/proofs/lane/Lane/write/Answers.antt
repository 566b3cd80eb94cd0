-- The old bucket goes first, and the new one comes last, if not as a label.
use Rattle.std.proofs.Common.{◌≡◌, ◌∙◌, nat_eq, Some, None, Result, Ok, Err, refl, ap, subst}
use Rattle.std.specs.Map.{lookup}
use Rattle.std.specs.Result.{IsErr, IsErrAnd}
use Rattle.lane_store.specs.declared.fault.LaneFault.{LaneFault}
use Rattle.lane_store.specs.declared.fault.LaneFault.TheVariants.{Memory}
use Rattle.std.specs.Prelude.{option_map}
use Rattle.far_object.specs.Formats.{spelling}
use Rattle.version_words.specs.Views.{name_of_parts}
use Rattle.lane_store.specs.Lanes.{ChangedAt, log_of}
use Rattle.lane_store.proofs.Stored.{same_inserted, changed_twice, relabels_none, still_none, bucket_here, bucket_elsewhere, sound_longer, sound_dropped, stored_added, stored_new}
use Rattle.lane_store.proofs.lane.Lane.write.Goals as goal

is_memory : (r : Result (Unit {0}) LaneFault) → IsErr r → IsErrAnd r (λ fault. fault ≡ Memory) → r ≡ Err Memory
is_memory (Ok answer) never fault = absurd (cc never)
is_memory (Err f) is fault = ap Err fault

pub invariant_of-self : goal.invariant_of-self
invariant_of-self g c =
    let n = c.number-number.result in
    let none = c.self.invariant.1 c.in_err-make_room.ensures.refused in
    sound_dropped g.K.FarObject.enc g.V.FarObject.enc g.K.FarObject.admits g.V.FarObject.admits g.J.Naming.limits (g.D.Device.state c.self.inside.device).contents (g.D.Device.state c.self.inside.device).contents (g.D.Device.labels c.self.inside.device) (g.D.Device.labels c.self.inside.device) c.self.inside.buckets.entries c.make_room.new.buckets.entries (log_of c.self.inside.seen) c.self.inside.labelled n c.self.invariant (relabels_none (g.D.Device.labels c.self.inside.device) n none) c.make_room.ensures.forgotten (λ q ne. refl)

pub returns-in_err-make_room-clause-stored : goal.returns-in_err-make_room-clause-stored
returns-in_err-make_room-clause-stored g c = (invariant_of-self g c).0

pub invariant_of-self-in_err-write_to : goal.invariant_of-self-in_err-write_to
invariant_of-self-in_err-write_to g c =
    let n = c.args.name.now.number in
    let long = sound_longer g.K.FarObject.enc g.V.FarObject.enc g.K.FarObject.admits g.V.FarObject.admits g.J.Naming.limits (g.D.Device.state c.self.inside.device).contents (g.D.Device.labels c.self.inside.device) c.self.inside.buckets.entries (log_of c.self.inside.seen) (log_of c.learn.new.seen) c.self.inside.labelled c.self.invariant c.learn.ensures.grows c.learn.ensures.lawful in
    let forgotten = subst (λ m. ChangedAt c.self.inside.buckets.entries c.make_room.new.buckets.entries m None) c.number-number.ensures c.make_room.ensures.forgotten in
    sound_dropped g.K.FarObject.enc g.V.FarObject.enc g.K.FarObject.admits g.V.FarObject.admits g.J.Naming.limits (g.D.Device.state c.self.inside.device).contents (g.D.Device.state c.write_to.new.device).contents (g.D.Device.labels c.self.inside.device) (g.D.Device.labels c.write_to.new.device) c.self.inside.buckets.entries c.make_room.new.buckets.entries (log_of c.learn.new.seen) c.self.inside.labelled n long c.in_err-write_to.ensures.labelled forgotten c.in_err-write_to.ensures.others

pub returns-in_err-write_to-clause-stored : goal.returns-in_err-write_to-clause-stored
returns-in_err-write_to-clause-stored g c = (invariant_of-self-in_err-write_to g c).0

pub invariant_of-self-then-branch : goal.invariant_of-self-then-branch
invariant_of-self-then-branch g c =
    let n = c.args.name.now.number in
    let long = sound_longer g.K.FarObject.enc g.V.FarObject.enc g.K.FarObject.admits g.V.FarObject.admits g.J.Naming.limits (g.D.Device.state c.self.inside.device).contents (g.D.Device.labels c.self.inside.device) c.self.inside.buckets.entries (log_of c.self.inside.seen) (log_of c.learn.new.seen) c.self.inside.labelled c.self.invariant c.learn.ensures.grows c.learn.ensures.lawful in
    let forgotten = subst (λ m. ChangedAt c.self.inside.buckets.entries c.make_room.new.buckets.entries m None) c.number-number.ensures c.make_room.ensures.forgotten in
    let w = c.in_ok-write_to.ensures in
    let name = c.args.name.now in
    let bytes = spelling g.K.FarObject.enc g.V.FarObject.enc c.args.format name.bucket n c.args.object.now in
    let same = same_inserted (g.D.Device.state c.self.inside.device).contents (g.D.Device.state c.write_to.new.device).contents n bytes w.stored in
    let stored = stored_new g.K.FarObject.enc g.V.FarObject.enc g.K.FarObject.admits g.V.FarObject.admits g.J.Naming.limits (g.D.Device.state c.self.inside.device).contents (g.D.Device.state c.write_to.new.device).contents name (log_of c.learn.new.seen) c.args.format c.args.object.now c.learn.ensures.named c.learn.ensures.told c.learn.ensures.lawful c.requires.object w.stored w.map in
    let labels = rw c.if-branch.true at w.labelled in
    (stored_added g.K.FarObject.enc g.V.FarObject.enc g.K.FarObject.admits g.V.FarObject.admits g.J.Naming.limits (g.D.Device.state c.self.inside.device).contents (g.D.Device.state c.write_to.new.device).contents (g.D.Device.labels c.self.inside.device) (g.D.Device.labels c.write_to.new.device) c.self.inside.buckets.entries c.make_room.new.buckets.entries (log_of c.learn.new.seen) c.self.inside.labelled n name.bucket (Some name.bucket) None long labels forgotten refl same stored, λ never. absurd (cc never))

pub returns-then-branch-clause-stored : goal.returns-then-branch-clause-stored
returns-then-branch-clause-stored g c = (invariant_of-self-then-branch g c).0

pub invariant_of-self-in_ok-insert : goal.invariant_of-self-in_ok-insert
invariant_of-self-in_ok-insert g c =
    let n = c.args.name.now.number in
    let long = sound_longer g.K.FarObject.enc g.V.FarObject.enc g.K.FarObject.admits g.V.FarObject.admits g.J.Naming.limits (g.D.Device.state c.self.inside.device).contents (g.D.Device.labels c.self.inside.device) c.self.inside.buckets.entries (log_of c.self.inside.seen) (log_of c.learn.new.seen) c.self.inside.labelled c.self.invariant c.learn.ensures.grows c.learn.ensures.lawful in
    let forgotten = subst (λ m. ChangedAt c.self.inside.buckets.entries c.make_room.new.buckets.entries m None) c.number-number.ensures c.make_room.ensures.forgotten in
    let w = c.in_ok-write_to.ensures in
    let name = c.args.name.now in
    let bytes = spelling g.K.FarObject.enc g.V.FarObject.enc c.args.format name.bucket n c.args.object.now in
    let same = same_inserted (g.D.Device.state c.self.inside.device).contents (g.D.Device.state c.write_to.new.device).contents n bytes w.stored in
    let stored = stored_new g.K.FarObject.enc g.V.FarObject.enc g.K.FarObject.admits g.V.FarObject.admits g.J.Naming.limits (g.D.Device.state c.self.inside.device).contents (g.D.Device.state c.write_to.new.device).contents name (log_of c.learn.new.seen) c.args.format c.args.object.now c.learn.ensures.named c.learn.ensures.told c.learn.ensures.lawful c.requires.object w.stored w.map in
    let labels = rw c.if-branch.false at w.labelled in
    let updates = subst (λ m. ChangedAt c.make_room.new.buckets.entries c.insert.new.self.entries m (Some c.bucket.result)) c.number-number.ensures c.in_ok-insert.ensures.updates.0 in
    let changed = subst (λ b. ChangedAt c.self.inside.buckets.entries c.insert.new.self.entries n (Some b)) c.bucket.ensures (changed_twice c.self.inside.buckets.entries c.make_room.new.buckets.entries c.insert.new.self.entries n None (Some c.bucket.result) forgotten updates) in
    (stored_added g.K.FarObject.enc g.V.FarObject.enc g.K.FarObject.admits g.V.FarObject.admits g.J.Naming.limits (g.D.Device.state c.self.inside.device).contents (g.D.Device.state c.write_to.new.device).contents (g.D.Device.labels c.self.inside.device) (g.D.Device.labels c.write_to.new.device) c.self.inside.buckets.entries c.insert.new.self.entries (log_of c.learn.new.seen) c.self.inside.labelled n name.bucket None (Some name.bucket) long labels changed refl same stored, λ un. still_none (g.D.Device.labels c.self.inside.device) (g.D.Device.labels c.write_to.new.device) n (c.self.invariant.1 un) labels)

pub returns-in_ok-insert-clause-stored : goal.returns-in_ok-insert-clause-stored
returns-in_ok-insert-clause-stored g c = (invariant_of-self-in_ok-insert g c).0

pub invariant_of-self-in_err-insert : goal.invariant_of-self-in_err-insert
invariant_of-self-in_err-insert g c =
    let n = c.args.name.now.number in
    let long = sound_longer g.K.FarObject.enc g.V.FarObject.enc g.K.FarObject.admits g.V.FarObject.admits g.J.Naming.limits (g.D.Device.state c.self.inside.device).contents (g.D.Device.labels c.self.inside.device) c.self.inside.buckets.entries (log_of c.self.inside.seen) (log_of c.learn.new.seen) c.self.inside.labelled c.self.invariant c.learn.ensures.grows c.learn.ensures.lawful in
    let forgotten = subst (λ m. ChangedAt c.self.inside.buckets.entries c.make_room.new.buckets.entries m None) c.number-number.ensures c.make_room.ensures.forgotten in
    let w = c.in_ok-write_to.ensures in
    let bytes = spelling g.K.FarObject.enc g.V.FarObject.enc c.args.format c.args.name.now.bucket n c.args.object.now in
    let labels = rw c.if-branch.false at w.labelled in
    let changed : ChangedAt c.self.inside.buckets.entries c.insert.new.self.entries n None = λ m. (ap (λ es. lookup (nat_eq m) es) c.in_err-insert.ensures.err ∙ forgotten m) in
    sound_dropped g.K.FarObject.enc g.V.FarObject.enc g.K.FarObject.admits g.V.FarObject.admits g.J.Naming.limits (g.D.Device.state c.self.inside.device).contents (g.D.Device.state c.write_to.new.device).contents (g.D.Device.labels c.self.inside.device) (g.D.Device.labels c.write_to.new.device) c.self.inside.buckets.entries c.insert.new.self.entries (log_of c.learn.new.seen) c.self.inside.labelled n long labels changed (same_inserted (g.D.Device.state c.self.inside.device).contents (g.D.Device.state c.write_to.new.device).contents n bytes w.stored)

pub returns-in_err-insert-clause-writes : goal.returns-in_err-insert-clause-writes
returns-in_err-insert-clause-writes g c =
    let n = c.args.name.now.number in
    let w = c.in_ok-write_to.ensures in
    let bytes = spelling g.K.FarObject.enc g.V.FarObject.enc c.args.format c.args.name.now.bucket n c.args.object.now in
    let labels = rw c.if-branch.false at w.labelled in
    let forgotten = subst (λ m. ChangedAt c.self.inside.buckets.entries c.make_room.new.buckets.entries m None) c.number-number.ensures c.make_room.ensures.forgotten in
    let changed : ChangedAt c.self.inside.buckets.entries c.insert.new.self.entries n None = λ m. (ap (λ es. lookup (nat_eq m) es) c.in_err-insert.ensures.err ∙ forgotten m) in
    let fault = is_memory c.from_residual-in_err-insert.result c.from_residual-in_err-insert.ensures.0 c.from_residual-in_err-insert.ensures.1 in
    rw (← c.self.view_is, fault) (record {
      receipt = tt;
      drawn = tt;
      stored = tt;
      none = ap (option_map (λ b. name_of_parts n b (log_of c.learn.new.seen))) (bucket_here (g.D.Device.labels c.self.inside.device) (g.D.Device.labels c.write_to.new.device) c.self.inside.buckets.entries c.insert.new.self.entries n None None labels changed);
      other_receipts = bucket_elsewhere (g.D.Device.labels c.self.inside.device) (g.D.Device.labels c.write_to.new.device) c.self.inside.buckets.entries c.insert.new.self.entries n None None labels changed;
      grows = c.learn.ensures.grows;
      other_ids = same_inserted (g.D.Device.state c.self.inside.device).contents (g.D.Device.state c.write_to.new.device).contents n bytes w.stored;
      counted = w.counted;
    })

pub returns-in_err-insert-clause-stored : goal.returns-in_err-insert-clause-stored
returns-in_err-insert-clause-stored g c = (invariant_of-self-in_err-insert g c).0
