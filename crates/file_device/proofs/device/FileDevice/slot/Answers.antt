use Rattle.std.proofs.Common.{Some, sym, ap, ◌∙◌}
use Rattle.std.specs.Option.{option_copied}
use Rattle.file_device.proofs.Owned.{slots_apart}
use Rattle.file_device.proofs.device.FileDevice.slot.Goals as goal

pub returns-in-Some-clause-apart : goal.returns-in-Some-clause-apart
returns-in-Some-clause-apart g c = λ other apart there same.
    let mine = sym (ap option_copied c.in-Some.is) ∙ c.place.ensures in
    slots_apart c.args.self.now.catalog.index.entries c.args.self.now.catalog.owners.ledgers c.args.id other c.in-Some.place.now c.args.self.now.catalog.owned mine apart (same ∙ ap Some c.slot.ensures.value)
