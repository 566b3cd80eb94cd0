use Rattle.far_map.proofs.Trying.{answers_on}
use Rattle.far_map.proofs.Losses.{loses_trans}
use Rattle.far_map.specs.Asks.{asked}
use Rattle.far_map.proofs.changes.answer_and_keep.Goals as goal

pub returns-clause-answers : goal.returns-clause-answers
returns-clause-answers g c =
    answers_on g.V.FarObject.enc g.J.Naming.limits c.args.map.now.table.limit c.args.session_state.now.caller.pass c.answer-answered.new.session_state.caller.pass c.after_call.new.session_state.caller.pass (asked c.args.ask.now) c.answer-answered.result
    c.answer-answered.ensures.answers c.after_call.ensures.goes

pub returns-clause-none_lost : goal.returns-clause-none_lost
returns-clause-none_lost g c = loses_trans _ _ _ _ _ _ c.answer-answered.ensures.none_lost c.after_call.ensures.none_lost
