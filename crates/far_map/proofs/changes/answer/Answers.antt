use Rattle.far_map.proofs.Trying.{replied_why, done_from}
use Rattle.hash_table.proofs.Fronts.{goes_trans}
use Rattle.far_map.proofs.Losses.{loses_trans, came}
use Rattle.far_map.specs.Asks.{asked}
use Rattle.far_map.proofs.changes.answer.Goals as goal

-- room was not to be made: the refusal stands, though the pass may have gone on
pub returns-in-Err-make_room-clause-answers : goal.returns-in-Err-make_room-clause-answers
returns-in-Err-make_room-clause-answers g c =
    let l = g.J.Naming.limits in
    let limit = c.args.map.now.table.limit in
    let old = c.args.session_state.now.caller.pass in
    let o = asked c.args.ask.now in
    replied_why g.V.FarObject.enc l limit old c.loop.session_state.caller.pass c.call.new.caller.pass c.make_room.new.session_state.caller.pass o c.in-Err.refusal c.in-Err-make_room.why c.loop.invariant.0 c.in-Err.ensures.tries
    c.in-Err-make_room.ensures.pass c.in-Err-make_room.ensures.why

pub returns-in-Ok-clause-answers : goal.returns-in-Ok-clause-answers
returns-in-Ok-clause-answers g c =
    done_from g.V.FarObject.enc g.J.Naming.limits c.args.map.now.table.limit c.args.session_state.now.caller.pass c.loop.session_state.caller.pass c.call.new.caller.pass (asked c.args.ask.now) c.in-Ok.answer c.loop.invariant.0 c.in-Ok.ensures.tries

pub returns-in-Ok-call-clause-answers : goal.returns-in-Ok-call-clause-answers
returns-in-Ok-call-clause-answers g c =
    done_from g.V.FarObject.enc g.J.Naming.limits c.args.map.now.table.limit c.args.session_state.now.caller.pass c.loop.session_state.caller.pass c.call-2.new.caller.pass (asked c.args.ask.now) c.in-Ok-call.answer c.loop.invariant.0 c.in-Ok-call.ensures.tries

pub returns-in-Ok-clause-none_lost : goal.returns-in-Ok-clause-none_lost
returns-in-Ok-clause-none_lost g c = loses_trans _ _ _ _ _ _ c.loop.invariant.1 (came _ _ _ c.call.ensures.limbo)

pub returns-in-Err-make_room-clause-none_lost : goal.returns-in-Err-make_room-clause-none_lost
returns-in-Err-make_room-clause-none_lost g c = loses_trans _ _ _ _ _ _ c.loop.invariant.1 (loses_trans _ _ _ _ _ _ (came _ _ _ c.call.ensures.limbo) c.make_room.ensures.none_lost)

pub returns-in-Ok-call-clause-none_lost : goal.returns-in-Ok-call-clause-none_lost
returns-in-Ok-call-clause-none_lost g c = loses_trans _ _ _ _ _ _ c.loop.invariant.1 (came _ _ _ c.call-2.ensures.limbo)

pub returns-in-Err-call-clause-none_lost : goal.returns-in-Err-call-clause-none_lost
returns-in-Err-call-clause-none_lost g c = loses_trans _ _ _ _ _ _ c.loop.invariant.1 (came _ _ _ c.call-2.ensures.limbo)

pub loop-preserved : goal.loop-preserved
loop-preserved g c = (
  goes_trans c.loop.invariant.0 (goes_trans c.in-Err.ensures.tries.goes c.make_room.ensures.pass),
  loses_trans _ _ _ _ _ _ c.loop.invariant.1 (loses_trans _ _ _ _ _ _ (came _ _ _ c.call.ensures.limbo) c.make_room.ensures.none_lost),
)
