-- What a read finds of a receipt's object, by its label or by the lane's own map.
use Rattle.std.proofs.Common.{◌≡◌, ◌∙◌, true, Some, refl, sym, ap, subst}
use Rattle.std.specs.Option.{is_some}
use Rattle.std.specs.FinMap.{contains_key}
use Rattle.version_words.specs.Shown.{IsOwn}
use Rattle.version_words.specs.Views.{name_of_parts}
use Rattle.lane_store.specs.Lanes.{AreStored, bucket_of, log_of, version_of}
use Rattle.lane_store.proofs.Stored.{by_label, by_bucket, none_before, sound_same}
use Rattle.lane_store.proofs.Reading.{read_none, read_some}
use Rattle.lane_store.proofs.lane.Lane.read.Goals as goal

pub returns-in_default-clause-reads : goal.returns-in_default-clause-reads
returns-in_default-clause-reads g c =
    let stored = subst (λ o. AreStored g.K.FarObject.enc g.V.FarObject.enc g.K.FarObject.admits g.V.FarObject.admits g.J.Naming.limits (g.D.Device.state c.self.inside.device).contents (bucket_of (g.D.Device.labels c.self.inside.device) c.self.inside.buckets.entries) (log_of o)) c.in_default.is c.self.invariant.0 in
    let none = none_before g.K.FarObject.enc g.V.FarObject.enc g.K.FarObject.admits g.V.FarObject.admits g.J.Naming.limits (g.D.Device.state c.self.inside.device).contents (bucket_of (g.D.Device.labels c.self.inside.device) c.self.inside.buckets.entries) stored c.args.name in
    rw (← c.self.view_is) (read_none g.D.Device.state g.D.Device.labels g.K.FarObject.enc g.V.FarObject.enc g.K.FarObject.admits g.V.FarObject.admits g.J.Naming.limits g.D.Device.HONEST (record { device = c.self.inside.device; buckets = c.self.inside.buckets.entries; log = log_of c.self.inside.seen }) c.self.inside.device c.args.name c.args.out.now.items c.args.out.now.items none refl refl (λ m. refl) refl)

pub returns-in_default-clause-stored : goal.returns-in_default-clause-stored
returns-in_default-clause-stored g c = rw (← c.self.view_is) c.self.invariant.0

pub invariant_of-self : goal.invariant_of-self
invariant_of-self g c =
    sound_same g.K.FarObject.enc g.V.FarObject.enc g.K.FarObject.admits g.V.FarObject.admits g.J.Naming.limits (g.D.Device.state c.self.inside.device).contents (g.D.Device.state c.read_label.new.device).contents (g.D.Device.labels c.self.inside.device) (g.D.Device.labels c.read_label.new.device) c.self.inside.buckets.entries (log_of c.self.inside.seen) c.self.inside.labelled
    c.self.invariant c.read_label.ensures.reads.kept c.read_label.ensures.same_labels

pub returns-in_err-bucket-clause-stored : goal.returns-in_err-bucket-clause-stored
returns-in_err-bucket-clause-stored g c = (invariant_of-self g c).0

pub of-requires : goal.of-requires
of-requires g c =
    let e = c.in_ok-bucket.ensures.reads in
    let found = by_label (g.D.Device.labels c.self.inside.device) c.self.inside.buckets.entries c.args.name c.in-Some-2.bucket (sym e.found ∙ c.in-Some-2.is) in
    let own = (c.self.invariant.0 c.args.name c.in-Some-2.bucket found).own in
    let log : log_of c.self.inside.seen ≡ c.in-Some.seen = ap log_of c.in-Some.is in
    record { own = subst (λ seen. IsOwn g.K.FarObject.enc g.V.FarObject.enc g.J.Naming.limits (version_of (name_of_parts c.args.name c.in-Some-2.bucket seen))) log own }

pub invariant_of-self-in-Some-2 : goal.invariant_of-self-in-Some-2
invariant_of-self-in-Some-2 g c =
    sound_same g.K.FarObject.enc g.V.FarObject.enc g.K.FarObject.admits g.V.FarObject.admits g.J.Naming.limits (g.D.Device.state c.self.inside.device).contents (g.D.Device.state c.read_label.new.device).contents (g.D.Device.labels c.self.inside.device) (g.D.Device.labels c.read_label.new.device) c.self.inside.buckets.entries (log_of c.self.inside.seen) c.self.inside.labelled
    c.self.invariant c.read_label.ensures.reads.kept c.read_label.ensures.same_labels

pub returns-in-Some-2-clause-reads : goal.returns-in-Some-2-clause-reads
returns-in-Some-2-clause-reads g c =
    let e = c.in_ok-bucket.ensures.reads in
    let b = c.in-Some-2.bucket in
    let n = c.args.name in
    let found = by_label (g.D.Device.labels c.self.inside.device) c.self.inside.buckets.entries n b (sym e.found ∙ c.in-Some-2.is) in
    let log : log_of c.self.inside.seen ≡ c.in-Some.seen = ap log_of c.in-Some.is in
    rw (← c.self.view_is, c.of.ensures, ← log)
    (read_some g.D.Device.state g.D.Device.labels g.K.FarObject.enc g.V.FarObject.enc g.K.FarObject.admits g.V.FarObject.admits g.J.Naming.limits g.D.Device.HONEST (record { device = c.self.inside.device; buckets = c.self.inside.buckets.entries; log = log_of c.self.inside.seen }) c.self.inside.device c.read_label.new.device n b c.args.out.now.items c.args.out.now.items c.read_label.new.out.items found c.self.invariant.0
    refl refl (rw c.in-Some-2.is at e.appended) (λ h. rw c.in-Some-2.is at (e.honest h)) e.kept c.in_ok-bucket.ensures.same_labels e.counted)

pub returns-in-Some-2-clause-stored : goal.returns-in-Some-2-clause-stored
returns-in-Some-2-clause-stored g c = (invariant_of-self-in-Some-2 g c).0

pub invariant_of-self-in_default-copied : goal.invariant_of-self-in_default-copied
invariant_of-self-in_default-copied g c =
    sound_same g.K.FarObject.enc g.V.FarObject.enc g.K.FarObject.admits g.V.FarObject.admits g.J.Naming.limits (g.D.Device.state c.self.inside.device).contents (g.D.Device.state c.read_label.new.device).contents (g.D.Device.labels c.self.inside.device) (g.D.Device.labels c.read_label.new.device) c.self.inside.buckets.entries (log_of c.self.inside.seen) c.self.inside.labelled
    c.self.invariant c.read_label.ensures.reads.kept c.read_label.ensures.same_labels

pub returns-in_default-copied-clause-stored : goal.returns-in_default-copied-clause-stored
returns-in_default-copied-clause-stored g c = (invariant_of-self-in_default-copied g c).0

pub invariant_of-self-in_err-read : goal.invariant_of-self-in_err-read
invariant_of-self-in_err-read g c =
    sound_same g.K.FarObject.enc g.V.FarObject.enc g.K.FarObject.admits g.V.FarObject.admits g.J.Naming.limits (g.D.Device.state c.self.inside.device).contents (g.D.Device.state c.read.new.self).contents (g.D.Device.labels c.self.inside.device) (g.D.Device.labels c.read.new.self) c.self.inside.buckets.entries (log_of c.self.inside.seen) c.self.inside.labelled
    c.self.invariant (c.read.ensures.reads.kept ∙ c.read_label.ensures.reads.kept) (λ m. c.read.ensures.same_labels m ∙ c.read_label.ensures.same_labels m)

pub returns-in_err-read-clause-stored : goal.returns-in_err-read-clause-stored
returns-in_err-read-clause-stored g c = (invariant_of-self-in_err-read g c).0

pub of-requires-then-branch : goal.of-requires-then-branch
of-requires-then-branch g c =
    let e = c.in_ok-bucket.ensures.reads in
    let n = c.args.name in
    let b = c.in-Some-copied.bucket in
    let found = by_bucket (g.D.Device.labels c.self.inside.device) c.self.inside.buckets.entries n (Some b) (sym e.found ∙ c.in_default-2.is) (sym (c.in-Some-copied.ensures ∙ c.get.ensures.value)) in
    let log : log_of c.self.inside.seen ≡ c.in-Some.seen = ap log_of c.in-Some.is in
    record { own = subst (λ seen. IsOwn g.K.FarObject.enc g.V.FarObject.enc g.J.Naming.limits (version_of (name_of_parts n b seen))) log (c.self.invariant.0 n b found).own }

pub invariant_of-self-then-branch : goal.invariant_of-self-then-branch
invariant_of-self-then-branch g c =
    sound_same g.K.FarObject.enc g.V.FarObject.enc g.K.FarObject.admits g.V.FarObject.admits g.J.Naming.limits (g.D.Device.state c.self.inside.device).contents (g.D.Device.state c.read.new.self).contents (g.D.Device.labels c.self.inside.device) (g.D.Device.labels c.read.new.self) c.self.inside.buckets.entries (log_of c.self.inside.seen) c.self.inside.labelled
    c.self.invariant (c.read.ensures.reads.kept ∙ c.read_label.ensures.reads.kept) (λ m. c.read.ensures.same_labels m ∙ c.read_label.ensures.same_labels m)

pub returns-then-branch-clause-reads : goal.returns-then-branch-clause-reads
returns-then-branch-clause-reads g c =
    let e = c.in_ok-bucket.ensures.reads in
    let n = c.args.name in
    let b = c.in-Some-copied.bucket in
    let found = by_bucket (g.D.Device.labels c.self.inside.device) c.self.inside.buckets.entries n (Some b) (sym e.found ∙ c.in_default-2.is) (sym (c.in-Some-copied.ensures ∙ c.get.ensures.value)) in
    let r = c.in_ok-read.ensures.reads in
    let log : log_of c.self.inside.seen ≡ c.in-Some.seen = ap log_of c.in-Some.is in
    rw (← c.self.view_is, c.of-then-branch.ensures, ← log)
    (read_some g.D.Device.state g.D.Device.labels g.K.FarObject.enc g.V.FarObject.enc g.K.FarObject.admits g.V.FarObject.admits g.J.Naming.limits g.D.Device.HONEST (record { device = c.self.inside.device; buckets = c.self.inside.buckets.entries; log = log_of c.self.inside.seen }) c.read_label.new.device c.read.new.self n b c.args.out.now.items c.read_label.new.out.items c.read.new.out.items found c.self.invariant.0
    e.kept (rw c.in_default-2.is at e.absent) (rw c.if-branch.true at r.appended) (λ h. rw c.if-branch.true at (r.honest h)) (r.kept ∙ e.kept)
    (λ m. c.in_ok-read.ensures.same_labels m ∙ c.in_ok-bucket.ensures.same_labels m) (r.counted ∙ e.counted))

pub returns-then-branch-clause-stored : goal.returns-then-branch-clause-stored
returns-then-branch-clause-stored g c = (invariant_of-self-then-branch g c).0

pub invariant_of-self-2 : goal.invariant_of-self-2
invariant_of-self-2 g c =
    sound_same g.K.FarObject.enc g.V.FarObject.enc g.K.FarObject.admits g.V.FarObject.admits g.J.Naming.limits (g.D.Device.state c.self.inside.device).contents (g.D.Device.state c.read.new.self).contents (g.D.Device.labels c.self.inside.device) (g.D.Device.labels c.read.new.self) c.self.inside.buckets.entries (log_of c.self.inside.seen) c.self.inside.labelled
    c.self.invariant (c.read.ensures.reads.kept ∙ c.read_label.ensures.reads.kept) (λ m. c.read.ensures.same_labels m ∙ c.read_label.ensures.same_labels m)

pub returns-clause-reads : goal.returns-clause-reads
returns-clause-reads g c =
    let e = c.in_ok-bucket.ensures.reads in
    let n = c.args.name in
    let b = c.in-Some-copied.bucket in
    let found = by_bucket (g.D.Device.labels c.self.inside.device) c.self.inside.buckets.entries n (Some b) (sym e.found ∙ c.in_default-2.is) (sym (c.in-Some-copied.ensures ∙ c.get.ensures.value)) in
    let s = c.self.invariant.0 n b found in
    let there : c.in_ok-read.field-0 ≡ true = c.in_ok-read.ensures.reads.found ∙ ap (λ m. contains_key m n) e.kept ∙ ap is_some s.there in
    absurd (cc (there, c.if-branch.false))

pub returns-clause-stored : goal.returns-clause-stored
returns-clause-stored g c = (invariant_of-self-2 g c).0
