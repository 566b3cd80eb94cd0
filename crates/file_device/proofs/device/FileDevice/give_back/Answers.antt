use Rattle.file_device.proofs.Kept.{kept_along, kept_cleared}
use Rattle.file_device.proofs.device.FileDevice.give_back.Goals as goal

pub invariant_of-self-else-is_idle : goal.invariant_of-self-else-is_idle
invariant_of-self-else-is_idle g c = record {
  kept = kept_along g.K.Disk.HONEST (g.K.Disk.kept c.args.self.now.disk) c.args.self.now.keys c.args.self.now.catalog.index.entries c.give_back.new.self.index.entries c.args.self.now.kept c.give_back.ensures;
}

pub invariant_of-self-else-is_ok : goal.invariant_of-self-else-is_ok
invariant_of-self-else-is_ok g c =
    let before = kept_along g.K.Disk.HONEST (g.K.Disk.kept c.args.self.now.disk) c.args.self.now.keys c.args.self.now.catalog.index.entries c.give_back.new.self.index.entries c.args.self.now.kept c.give_back.ensures in
    record {
      kept = kept_cleared g.K.Disk.HONEST (g.K.Disk.kept c.args.self.now.disk) (g.K.Disk.kept c.clear.new.self) c.args.self.now.keys c.give_back.new.self.index.entries c.args.slot.class before c.if-is_idle.ensures c.clear.ensures;
    }

pub invariant_of-self : goal.invariant_of-self
invariant_of-self g c =
    let before = kept_along g.K.Disk.HONEST (g.K.Disk.kept c.args.self.now.disk) c.args.self.now.keys c.args.self.now.catalog.index.entries c.give_back.new.self.index.entries c.args.self.now.kept c.give_back.ensures in
    let cleared = kept_cleared g.K.Disk.HONEST (g.K.Disk.kept c.args.self.now.disk) (g.K.Disk.kept c.clear.new.self) c.args.self.now.keys c.give_back.new.self.index.entries c.args.slot.class before c.if-is_idle.ensures c.clear.ensures in
    record {
      kept = kept_along g.K.Disk.HONEST (g.K.Disk.kept c.clear.new.self) c.args.self.now.keys c.give_back.new.self.index.entries c.clear-then-is_ok.new.self.index.entries cleared c.clear-then-is_ok.ensures;
    }
