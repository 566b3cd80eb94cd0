use Rattle.std.proofs.Common.{ap, ◌∙◌, refl}
use Rattle.std.specs.FinMap.{insert}
use Rattle.far_device.proofs.Kept.{contents_of-insert}
use Rattle.far_device.proofs.fake_device.FakeDeviceDevice.write.Goals as goal

pub returns-clause-writes : goal.returns-clause-writes
returns-clause-writes c = record {
  written = contents_of-insert c.self.inside.kept.entries c.insert.new.self.entries c.args.id c.in_ok-copy.copy c.args.bytes.now c.in_ok-copy.ensures.items c.in_ok-insert.ensures.updates.0
      ∙ ap (λ m. insert m c.args.id c.args.bytes.now) c.self.view_is;
  others = tt;
  counted = refl;
}
