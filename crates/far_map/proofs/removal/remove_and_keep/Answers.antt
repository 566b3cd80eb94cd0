use Rattle.far_map.proofs.Trying.{answers_on}
use Rattle.far_map.proofs.Losses.{loses_trans}
use Rattle.far_map.specs.Removals.{call_of, found_in}
use Rattle.far_map.proofs.removal.remove_and_keep.Goals as goal

pub returns-clause-answers : goal.returns-clause-answers
returns-clause-answers g c =
    answers_on g.V.FarObject.enc g.J.Naming.limits c.args.map.now.table.limit c.args.session_state.now.caller.pass c.remove_in_room-removal.new.session_state.caller.pass c.after_call.new.session_state.caller.pass (call_of c.args.key.now c.remove_in_room-removal.result)
    (found_in c.remove_in_room-removal.result) c.remove_in_room-removal.ensures.answers c.after_call.ensures.goes

pub returns-clause-none_lost : goal.returns-clause-none_lost
returns-clause-none_lost g c = loses_trans _ _ _ _ _ _ c.remove_in_room-removal.ensures.none_lost c.after_call.ensures.none_lost
