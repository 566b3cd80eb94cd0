use Rattle.table_core.specs.declared.operation.Operation.TheVariants.{Get}
use Rattle.version_words.proofs.Fronts.{prefix_trans}
use Rattle.hash_table.proofs.Fronts.{goes_trans, finished_from}
use Rattle.hash_table.proofs.Refused.{refused_sooner}
use Rattle.hash_table.proofs.table.FarTable.get.Goals as goal

pub loop-preserved : goal.loop-preserved
loop-preserved g c = record {
  goes = goes_trans c.loop.invariant.goes (rw c.in-Ok-Again.field-0-is at c.in-Ok-Again.ensures.round);
  limbo = prefix_trans c.args.caller.now.limbo c.loop.caller.limbo c.get_round.new.caller.limbo c.loop.invariant.limbo c.get_round.ensures.limbo;
}

pub returns-in-Ok-Finished-clause-finished : goal.returns-in-Ok-Finished-clause-finished
returns-in-Ok-Finished-clause-finished g c = finished_from g.K.FarObject.enc g.V.FarObject.enc g.J.Naming.limits (Get c.args.key.now) c.in-Ok-Finished.answer c.loop.invariant.goes (rw c.in-Ok-Finished.field-0-is at c.in-Ok-Finished.ensures.round)

pub returns-in-Err-clause-goes : goal.returns-in-Err-clause-goes
returns-in-Err-clause-goes g c = goes_trans c.loop.invariant.goes c.in-Err.ensures.goes

pub returns-in-Err-clause-refused : goal.returns-in-Err-clause-refused
returns-in-Err-clause-refused g c = refused_sooner g.K.FarObject.enc g.V.FarObject.enc g.J.Naming.limits c.args.caller.now.pass c.loop.caller.pass c.get_round.new.caller.pass _ c.in-Err.refusal c.loop.invariant.goes c.in-Err.ensures.refused
