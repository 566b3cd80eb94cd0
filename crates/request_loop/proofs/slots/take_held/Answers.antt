use Rattle.std.proofs.Common.{sym, ap, ◌∙◌}
use Rattle.request_loop.specs.Slots.{state_of}
use Rattle.request_loop.proofs.Seeing.{slot_runs}
use Rattle.request_loop.proofs.slots.take_held.Goals as goal

pub returns-clause-held : goal.returns-clause-held
returns-clause-held c =
    let old = c.replace_slot-held.ensures.old in
    λ is. sym old ∙ slot_runs c.replace_slot-held.result (ap state_of old ∙ is)
