use Rattle.table_core.specs.declared.operation.Operation.TheVariants.{Get}
use Rattle.hash_table.proofs.Fronts.{finished_from}
use Rattle.hash_table.proofs.Refused.{unread_refused, moved_seen}
use Rattle.hash_table.proofs.table.FarTable.try_get.Goals as goal

pub returns-in-Ok-answer-clause-finished : goal.returns-in-Ok-answer-clause-finished
returns-in-Ok-answer-clause-finished g c = finished_from g.K.FarObject.enc g.V.FarObject.enc g.J.Naming.limits (Get c.args.key.now) c.in-Ok-answer.answer c.look-word.ensures.pass c.in-Ok-answer.ensures.finished

pub returns-in-Err-clause-refused : goal.returns-in-Err-clause-refused
returns-in-Err-clause-refused g c = unread_refused g.K.FarObject.enc g.V.FarObject.enc g.J.Naming.limits c.args.caller.now.pass c.look-word.new.pass c.bucket-b.result _ c.look-word.result c.in-Err.refusal c.bucket-b.ensures.is c.look-word.ensures.word c.in-Err.ensures.why

pub returns-in-Err-answer-clause-refused : goal.returns-in-Err-answer-clause-refused
returns-in-Err-answer-clause-refused g c = moved_seen g.K.FarObject.enc g.V.FarObject.enc g.J.Naming.limits c.bucket-b.result _ c.look-word.result c.look-word.ensures.pass c.in-Err-answer.ensures.goes c.bucket-b.ensures.is c.look-word.ensures.word c.in-Err-answer.ensures.moved
