use Rattle.table_core.specs.Lent.{lent}
use Rattle.version_words.proofs.Fronts.{prefix_self, prefix_trans}
use Rattle.hash_table.proofs.Fronts.{goes_self, goes_trans, finished_from, one_more_begins}
use Rattle.hash_table.proofs.Refused.{unchanged_sooner}
use Rattle.std.proofs.Common.{refl}
use Rattle.hash_table.proofs.Steps.{installed_from, gave_none, gave_up_trans, may_many, may_give_up}
use Rattle.hash_table.proofs.table.FarTable.change.Goals as goal

pub loop-init : goal.loop-init
loop-init g c = record { goes = goes_self c.args.caller.now.pass; limbo = prefix_self c.args.caller.now.limbo; left = gave_none _ c.args.caller.now.limbo }

pub loop-preserved : goal.loop-preserved
loop-preserved g c = record {
  goes = goes_trans c.loop.invariant.goes (rw c.in-Ok-Again.field-0-is at c.in-Ok-Again.ensures.round);
  limbo = prefix_trans c.args.caller.now.limbo c.loop.caller.limbo c.change_round.new.caller.limbo c.loop.invariant.limbo (one_more_begins c.loop.caller.limbo c.change_round.new.caller.limbo c.change_round.ensures.limbo);
  left = gave_up_trans _ c.args.caller.now.limbo c.loop.caller.limbo c.change_round.new.caller.limbo c.loop.invariant.left (may_many _ c.loop.caller.limbo c.change_round.new.caller.limbo (rw c.in-Ok-Again.field-0-is at c.in-Ok-Again.ensures.left));
}

pub returns-in-Ok-Finished-clause-limbo : goal.returns-in-Ok-Finished-clause-limbo
returns-in-Ok-Finished-clause-limbo g c = prefix_trans c.args.caller.now.limbo c.loop.caller.limbo c.change_round.new.caller.limbo c.loop.invariant.limbo (one_more_begins c.loop.caller.limbo c.change_round.new.caller.limbo c.change_round.ensures.limbo)

pub returns-in-Ok-Finished-clause-finished : goal.returns-in-Ok-Finished-clause-finished
returns-in-Ok-Finished-clause-finished g c = finished_from g.K.FarObject.enc g.V.FarObject.enc g.J.Naming.limits (lent c.args.operation.now) c.in-Ok-Finished.answer c.loop.invariant.goes (rw c.in-Ok-Finished.field-0-is at c.in-Ok-Finished.ensures.round)

pub returns-in-Err-clause-limbo : goal.returns-in-Err-clause-limbo
returns-in-Err-clause-limbo g c = prefix_trans c.args.caller.now.limbo c.loop.caller.limbo c.change_round.new.caller.limbo c.loop.invariant.limbo (one_more_begins c.loop.caller.limbo c.change_round.new.caller.limbo c.change_round.ensures.limbo)

pub returns-in-Err-clause-goes : goal.returns-in-Err-clause-goes
returns-in-Err-clause-goes g c = goes_trans c.loop.invariant.goes c.in-Err.ensures.goes

pub returns-in-Err-clause-refused : goal.returns-in-Err-clause-refused
returns-in-Err-clause-refused g c = unchanged_sooner g.K.FarObject.enc g.V.FarObject.enc g.J.Naming.limits c.args.caller.now.pass c.loop.caller.pass c.change_round.new.caller.pass c.args.self.now.limit _ (lent c.args.operation.now) c.in-Err.refusal c.loop.invariant.goes c.in-Err.ensures.refused

pub returns-in-Ok-Finished-clause-installed : goal.returns-in-Ok-Finished-clause-installed
returns-in-Ok-Finished-clause-installed g c =
    (c.loop.caller.limbo, c.loop.invariant.left, installed_from g.K.FarObject.enc g.V.FarObject.enc g.J.Naming.limits c.args.self.now.limit c.args.self.now.frames _ _ (lent c.args.operation.now) _ _ c.loop.invariant.goes refl (rw c.in-Ok-Finished.field-0-is at c.in-Ok-Finished.ensures.left))

pub returns-in-Err-clause-given_up : goal.returns-in-Err-clause-given_up
returns-in-Err-clause-given_up g c = gave_up_trans _ c.args.caller.now.limbo c.loop.caller.limbo c.change_round.new.caller.limbo c.loop.invariant.left (may_many _ _ _ (may_give_up _ _ _ c.in-Err.refusal c.in-Err.ensures.given_up))
