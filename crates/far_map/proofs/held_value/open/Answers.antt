use Rattle.far_map.proofs.Trying.{replied_why, held_answers}
use Rattle.std.proofs.Common.{inl}
use Rattle.hash_table.proofs.Fronts.{goes_self, goes_trans}
use Rattle.far_map.proofs.Losses.{loses_trans, came}
use Rattle.table_core.specs.declared.operation.Operation.TheVariants.{Get}
use Rattle.far_map.proofs.held_value.open.Goals as goal

-- room was not to be made: the refusal stands, though the pass may have gone on
pub returns-in-Err-make_room-clause-answers : goal.returns-in-Err-make_room-clause-answers
returns-in-Err-make_room-clause-answers g c =
    let l = g.J.Naming.limits in
    let limit = c.args.map.now.table.limit in
    let old = c.args.session_state.now.caller.pass in
    let o = Get c.args.key.now in
    replied_why g.V.FarObject.enc l limit old c.loop.session_state.caller.pass c.open_near.new.caller.pass c.make_room.new.session_state.caller.pass o c.in-Err.refusal c.in-Err-make_room.why c.loop.invariant.0 c.in-Err.ensures.tries
    c.in-Err-make_room.ensures.pass c.in-Err-make_room.ensures.why

pub returns-in-Ok-clause-answers : goal.returns-in-Ok-clause-answers
returns-in-Ok-clause-answers g c =
    held_answers g.V.FarObject.enc g.J.Naming.limits c.args.map.now.table.limit c.args.session_state.now.caller.pass c.loop.session_state.caller.pass c.open_near.new.caller.pass c.args.key.now c.in-Ok.held c.loop.invariant.0 c.in-Ok.ensures.tries

pub returns-in-Ok-open_near-clause-answers : goal.returns-in-Ok-open_near-clause-answers
returns-in-Ok-open_near-clause-answers g c =
    held_answers g.V.FarObject.enc g.J.Naming.limits c.args.map.now.table.limit c.args.session_state.now.caller.pass c.loop.session_state.caller.pass c.open_near-2.new.caller.pass c.args.key.now c.in-Ok-open_near.held c.loop.invariant.0 c.in-Ok-open_near.ensures.tries

pub returns-in-Ok-clause-none_lost : goal.returns-in-Ok-clause-none_lost
returns-in-Ok-clause-none_lost g c = loses_trans _ _ _ _ _ _ c.loop.invariant.1 (came _ _ _ c.open_near.ensures.limbo)

pub returns-in-Err-make_room-clause-none_lost : goal.returns-in-Err-make_room-clause-none_lost
returns-in-Err-make_room-clause-none_lost g c = loses_trans _ _ _ _ _ _ c.loop.invariant.1 (loses_trans _ _ _ _ _ _ (came _ _ _ c.open_near.ensures.limbo) c.make_room.ensures.none_lost)

pub returns-in-Ok-open_near-clause-none_lost : goal.returns-in-Ok-open_near-clause-none_lost
returns-in-Ok-open_near-clause-none_lost g c = loses_trans _ _ _ _ _ _ c.loop.invariant.1 (came _ _ _ c.open_near-2.ensures.limbo)

pub returns-in-Err-open_near-clause-none_lost : goal.returns-in-Err-open_near-clause-none_lost
returns-in-Err-open_near-clause-none_lost g c = loses_trans _ _ _ _ _ _ c.loop.invariant.1 (came _ _ _ c.open_near-2.ensures.limbo)

pub loop-preserved : goal.loop-preserved
loop-preserved g c = (
  goes_trans c.loop.invariant.0 (goes_trans c.in-Err.ensures.tries.goes c.make_room.ensures.pass),
  loses_trans _ _ _ _ _ _ c.loop.invariant.1 (loses_trans _ _ _ _ _ _ (came _ _ _ c.open_near.ensures.limbo) c.make_room.ensures.none_lost),
)

pub returns-in-Err-open_near-clause-answers : goal.returns-in-Err-open_near-clause-answers
returns-in-Err-open_near-clause-answers g c =
    replied_why g.V.FarObject.enc g.J.Naming.limits c.args.map.now.table.limit c.args.session_state.now.caller.pass c.loop.session_state.caller.pass c.open_near-2.new.caller.pass c.open_near-2.new.caller.pass (Get c.args.key.now) c.in-Err-open_near.refusal c.said.result
    c.loop.invariant.0 c.in-Err-open_near.ensures.tries (goes_self c.open_near-2.new.caller.pass) (inl c.said.ensures)
