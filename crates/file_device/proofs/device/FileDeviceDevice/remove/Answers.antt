use Rattle.std.proofs.Common.{ap, sym, refl, ◌∙◌}
use Rattle.std.specs.Option.{is_some}
use Rattle.file_device.specs.Places.{contents_of}
use Rattle.file_device.proofs.Contents.{contents_of-remove, contains_key-contents_of}
use Rattle.file_device.proofs.Kept.{kept_removed}
use Rattle.file_device.proofs.device.FileDeviceDevice.remove.Goals as goal

pub invariant_of-self : goal.invariant_of-self
invariant_of-self g c = record {
  kept = kept_removed g.K.Disk.HONEST (g.K.Disk.kept c.args.self.now.disk) c.args.self.now.keys c.args.self.now.catalog.index.entries c.remove.new.self.index.entries c.args.id c.args.self.now.kept c.remove.ensures.removed;
}

pub returns-in-Some-clause-removes : goal.returns-in-Some-clause-removes
returns-in-Some-clause-removes g c =
    let old = c.args.self.now.catalog.index.entries in
    record {
      found = sym (ap is_some c.in-Some.is) ∙ (c.remove.ensures.found ∙ sym (contains_key-contents_of old c.args.id));
      removed = ap contents_of c.give_back.ensures.same_index ∙ contents_of-remove old c.remove.new.self.index.entries c.args.id c.remove.ensures.removed;
      others = tt;
      counted = c.give_back.ensures.same_count;
    }

pub returns-in-None-clause-removes : goal.returns-in-None-clause-removes
returns-in-None-clause-removes g c =
    let old = c.args.self.now.catalog.index.entries in
    record {
      found = sym (ap is_some c.in-None.is) ∙ (c.remove.ensures.found ∙ sym (contains_key-contents_of old c.args.id));
      removed = contents_of-remove old c.remove.new.self.index.entries c.args.id c.remove.ensures.removed;
      others = tt;
      counted = refl;
    }
