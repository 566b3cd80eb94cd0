use Rattle.std.proofs.Common.{Some, refl, sym, ap, ◌∙◌}
use Rattle.request_loop.specs.Slots.{seen}
use Rattle.request_loop.proofs.Seeing.{seen_found, seen_of, found_replaces}
use Rattle.request_loop.proofs.slots.replace_slot.Goals as goal

pub returns-clause-old : goal.returns-clause-old
returns-clause-old c = ap (seen_of c.args.slots.now.next c.args.connection) (sym c.in-Ok-Some.field-0-is ∙ c.in-Ok-Some.ensures.old) ∙ sym (seen_found c.args.slots.now c.args.connection)

pub returns-clause-new : goal.returns-clause-new
returns-clause-new c = found_replaces c.args.connection c.args.slots.now (record { map = c.insert.new.self; next = c.args.slots.now.next }) (Some c.args.slot) (seen c.args.slot) refl c.in-Ok-Some.ensures.updates.1 c.in-Ok-Some.ensures.updates.2 refl
