use Rattle.std.proofs.Common.{sym, ap, ◌∙◌}
use Rattle.request_loop.specs.Slots.{state_of}
use Rattle.request_loop.proofs.Seeing.{seen_found, seen_of, slot_state, gone_at}
use Rattle.request_loop.proofs.slots.state_at.Goals as goal

pub returns-in-Some-clause-state : goal.returns-in-Some-clause-state
returns-in-Some-clause-state c = ap state_of (seen_found c.args.slots.now c.args.connection ∙ ap (seen_of c.args.slots.now.next c.args.connection) (sym c.in-Some.ensures.value)) ∙ slot_state c.in-Some.slot.now

pub returns-in-None-clause-gone : goal.returns-in-None-clause-gone
returns-in-None-clause-gone c = λ none below. gone_at c.args.slots.now c.args.connection (sym c.in-None.ensures.value) below
