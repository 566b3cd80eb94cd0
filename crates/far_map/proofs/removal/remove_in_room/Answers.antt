use Rattle.far_map.proofs.Trying.{replied_why, done_from}
use Rattle.std.proofs.Common.{inl}
use Rattle.hash_table.proofs.Fronts.{goes_self, goes_trans}
use Rattle.hash_table.specs.Changes.{removal_of}
use Rattle.far_map.proofs.Losses.{loses_trans, came}
use Rattle.table_core.specs.declared.operation.Operation.TheVariants.{Remove}
use Rattle.far_map.proofs.removal.remove_in_room.Goals as goal

-- room was not to be made: the refusal stands, though the pass may have gone on
pub returns-in-Err-make_room-clause-answers : goal.returns-in-Err-make_room-clause-answers
returns-in-Err-make_room-clause-answers g c =
    let l = g.J.Naming.limits in
    let limit = c.args.map.now.table.limit in
    let old = c.args.session_state.now.caller.pass in
    let o = Remove c.args.key.now in
    replied_why g.V.FarObject.enc l limit old c.loop.session_state.caller.pass c.remove_now.new.caller.pass c.make_room.new.session_state.caller.pass o c.in-Err.refusal c.in-Err-make_room.why c.loop.invariant.0 c.in-Err.ensures.tries
    c.in-Err-make_room.ensures.pass c.in-Err-make_room.ensures.why

pub returns-in-Ok-clause-answers : goal.returns-in-Ok-clause-answers
returns-in-Ok-clause-answers g c =
    done_from g.V.FarObject.enc g.J.Naming.limits c.args.map.now.table.limit c.args.session_state.now.caller.pass c.loop.session_state.caller.pass c.remove_now.new.caller.pass (removal_of c.args.key.now c.in-Ok.removal.removed) c.in-Ok.removal.found
    c.loop.invariant.0 c.in-Ok.ensures.tries

pub returns-in-Ok-remove_now-clause-answers : goal.returns-in-Ok-remove_now-clause-answers
returns-in-Ok-remove_now-clause-answers g c =
    done_from g.V.FarObject.enc g.J.Naming.limits c.args.map.now.table.limit c.args.session_state.now.caller.pass c.loop.session_state.caller.pass c.remove_now-2.new.caller.pass (removal_of c.args.key.now c.in-Ok-remove_now.removal.removed)
    c.in-Ok-remove_now.removal.found c.loop.invariant.0 c.in-Ok-remove_now.ensures.tries

pub returns-in-Err-remove_now-clause-answers : goal.returns-in-Err-remove_now-clause-answers
returns-in-Err-remove_now-clause-answers g c =
    replied_why g.V.FarObject.enc g.J.Naming.limits c.args.map.now.table.limit c.args.session_state.now.caller.pass c.loop.session_state.caller.pass c.remove_now-2.new.caller.pass c.remove_now-2.new.caller.pass (Remove c.args.key.now) c.in-Err-remove_now.refusal c.said.result
    c.loop.invariant.0 c.in-Err-remove_now.ensures.tries (goes_self c.remove_now-2.new.caller.pass) (inl c.said.ensures)

pub returns-in-Ok-clause-none_lost : goal.returns-in-Ok-clause-none_lost
returns-in-Ok-clause-none_lost g c = loses_trans _ _ _ _ _ _ c.loop.invariant.1 (came _ _ _ c.remove_now.ensures.limbo)

pub returns-in-Err-make_room-clause-none_lost : goal.returns-in-Err-make_room-clause-none_lost
returns-in-Err-make_room-clause-none_lost g c = loses_trans _ _ _ _ _ _ c.loop.invariant.1 (loses_trans _ _ _ _ _ _ (came _ _ _ c.remove_now.ensures.limbo) c.make_room.ensures.none_lost)

pub returns-in-Ok-remove_now-clause-none_lost : goal.returns-in-Ok-remove_now-clause-none_lost
returns-in-Ok-remove_now-clause-none_lost g c = loses_trans _ _ _ _ _ _ c.loop.invariant.1 (came _ _ _ c.remove_now-2.ensures.limbo)

pub returns-in-Err-remove_now-clause-none_lost : goal.returns-in-Err-remove_now-clause-none_lost
returns-in-Err-remove_now-clause-none_lost g c = loses_trans _ _ _ _ _ _ c.loop.invariant.1 (came _ _ _ c.remove_now-2.ensures.limbo)

pub loop-preserved : goal.loop-preserved
loop-preserved g c = (
  goes_trans c.loop.invariant.0 (goes_trans c.in-Err.ensures.tries.goes c.make_room.ensures.pass),
  loses_trans _ _ _ _ _ _ c.loop.invariant.1 (loses_trans _ _ _ _ _ _ (came _ _ _ c.remove_now.ensures.limbo) c.make_room.ensures.none_lost),
)
