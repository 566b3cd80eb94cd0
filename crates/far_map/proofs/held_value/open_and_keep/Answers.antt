use Rattle.far_map.proofs.Trying.{answers_on}
use Rattle.far_map.proofs.Losses.{loses_trans}
use Rattle.table_core.specs.declared.operation.Operation.TheVariants.{Get}
use Rattle.far_map.specs.Answers.{held_in}
use Rattle.far_map.proofs.held_value.open_and_keep.Goals as goal

pub returns-clause-answers : goal.returns-clause-answers
returns-clause-answers g c =
    answers_on g.V.FarObject.enc g.J.Naming.limits c.args.map.now.table.limit c.args.session_state.now.caller.pass c.open-held.new.session_state.caller.pass c.after_call.new.session_state.caller.pass (Get c.args.key.now) (held_in (λ s. s.value) c.open-held.result)
    c.open-held.ensures.answers c.after_call.ensures.goes

pub returns-clause-none_lost : goal.returns-clause-none_lost
returns-clause-none_lost g c = loses_trans _ _ _ _ _ _ c.open-held.ensures.none_lost c.after_call.ensures.none_lost
