use Rattle.file_device.proofs.Owned.{owned_beside}
use Rattle.file_device.proofs.catalog.Catalog.give_back.Goals as goal

pub invariant_of-self : goal.invariant_of-self
invariant_of-self c = record {
  owned = owned_beside c.args.self.now.index.entries c.args.self.now.owners.ledgers c.give_back.new.self.ledgers c.args.slot c.args.self.now.owned c.requires.free c.give_back.ensures;
}
