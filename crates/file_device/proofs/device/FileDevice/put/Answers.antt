use Rattle.file_device.proofs.Labels.{kept_unlabelled, writes_unlabelled, refused_unlabelled}
use Rattle.file_device.proofs.device.FileDevice.put.Goals as goal

pub invariant_of-self : goal.invariant_of-self
invariant_of-self g c = record {
  kept = kept_unlabelled g.K.Disk.HONEST (g.K.Disk.kept c.store-done.new.self.disk) c.store-done.new.self.keys c.store-done.new.self.catalog.index.entries c.unlabel.new.self.index.entries c.args.id c.store-done.new.self.kept c.unlabel.ensures;
}

pub returns-then-is_err-clause-writes : goal.returns-then-is_err-clause-writes
returns-then-is_err-clause-writes g c =
    writes_unlabelled _ c.store-done.new.self.catalog.index.entries c.unlabel.new.self.index.entries c.store-done.new.self.failures.count c.args.id c.args.bytes.now c.store-done.result c.store-done.ensures.writes c.unlabel.ensures

pub returns-then-is_err-clause-refused : goal.returns-then-is_err-clause-refused
returns-then-is_err-clause-refused g c =
    refused_unlabelled c.args.self.now.catalog.index.entries c.store-done.new.self.catalog.index.entries c.unlabel.new.self.index.entries c.args.id c.store-done.result c.store-done.ensures.refused c.unlabel.ensures
