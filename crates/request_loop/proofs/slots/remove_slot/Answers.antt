use Rattle.std.proofs.Common.{None, refl}
use Rattle.request_loop.specs.Slots.{Gone}
use Rattle.request_loop.proofs.Seeing.{found_replaces, is_gone}
use Rattle.request_loop.proofs.slots.remove_slot.Goals as goal

pub returns : goal.returns
returns c = found_replaces c.args.connection c.args.slots.now (record { map = c.remove-old.new.self; next = c.args.slots.now.next }) None Gone refl c.remove-old.ensures.updates.1 c.remove-old.ensures.updates.2 (is_gone c.args.slots.now.next c.args.connection c.requires)
