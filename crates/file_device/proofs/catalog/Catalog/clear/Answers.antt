use Rattle.file_device.proofs.Owned.{owned_cleared}
use Rattle.file_device.proofs.catalog.Catalog.clear.Goals as goal

pub invariant_of-self : goal.invariant_of-self
invariant_of-self c = record {
  owned = owned_cleared c.args.self.now.index.entries c.args.self.now.owners.ledgers c.clear.new.self.ledgers c.args.class c.args.self.now.owned c.requires.unused c.clear.ensures;
}
