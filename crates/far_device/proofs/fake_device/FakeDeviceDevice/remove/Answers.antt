use Rattle.std.proofs.Common.{ap, ◌∙◌, sym, refl}
use Rattle.std.specs.FinMap.{remove}
use Rattle.far_device.proofs.Kept.{contents_of-remove, contains_key-contents_of}
use Rattle.far_device.proofs.fake_device.FakeDeviceDevice.remove.Goals as goal

pub returns-clause-removes : goal.returns-clause-removes
returns-clause-removes c =
    let entries = c.self.inside.kept.entries in
    record {
      found = c.is_some.ensures ∙ sym (contains_key-contents_of entries c.args.self.now c.args.id c.remove.result c.self.view_is c.remove.ensures.value);
      removed = contents_of-remove entries c.remove.new.self.entries c.args.id c.remove.ensures.updates.0 ∙ ap (λ m. remove m c.args.id) c.self.view_is;
      others = tt;
      counted = refl;
    }
