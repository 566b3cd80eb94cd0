use Rattle.file_device.proofs.Owned.{owned_beside}
use Rattle.file_device.proofs.catalog.Catalog.take.Goals as goal

pub invariant_of-self : goal.invariant_of-self
invariant_of-self c = record {
  owned = owned_beside c.args.self.now.index.entries c.args.self.now.owners.ledgers c.take.new.self.ledgers _ c.args.self.now.owned c.if-not-is_free.ensures c.take.ensures.others;
}
