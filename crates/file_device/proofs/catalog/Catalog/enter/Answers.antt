use Rattle.std.proofs.Common.{◌≡◌, Some, ◌∙◌, sym, subst}
use Rattle.file_device.specs.declared.slot.Slot.{Slot}
use Rattle.file_device.specs.Places.{IsFree, place_of}
use Rattle.file_device.proofs.Owned.{left_by_entry}
use Rattle.file_device.proofs.catalog.Catalog.enter.Goals as goal

pub returns-in-Ok-Some-clause-left : goal.returns-in-Ok-Some-clause-left
returns-in-Ok-Some-clause-left c =
    let was : Some c.in-Ok-Some.before ≡ place_of c.args.self.now.index.entries c.args.id = sym c.in-Ok-Some.field-0-is ∙ c.in-Ok-Some.ensures.old in
    let P : Slot → Type 0 = λ slot. IsFree c.insert.new.self.entries slot in
    subst P (sym c.slot.ensures.value) (left_by_entry c.args.self.now.index.entries c.insert.new.self.entries c.args.self.now.owners.ledgers c.args.id c.in-Ok-Some.before c.args.place c.args.self.now.owned c.in-Ok-Some.ensures.updates.0 c.requires.free was)
