use Rattle.std.proofs.Common.{sym, subst}
use Rattle.file_device.specs.declared.slot.Slot.{Slot}
use Rattle.file_device.specs.Places.{IsFree}
use Rattle.file_device.proofs.Owned.{left_by_removal}
use Rattle.file_device.proofs.catalog.Catalog.remove.Goals as goal

pub returns-in-Some-clause-left : goal.returns-in-Some-clause-left
returns-in-Some-clause-left c =
    let P : Slot → Type 0 = λ slot. IsFree c.remove.new.self.entries slot in
    subst P (sym c.slot.ensures.value) (left_by_removal c.args.self.now.index.entries c.remove.new.self.entries c.args.self.now.owners.ledgers c.args.id c.in-Some.place c.args.self.now.owned c.remove.ensures.updates.0 c.in-Some.ensures.value)
