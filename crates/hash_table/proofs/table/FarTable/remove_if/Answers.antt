use Rattle.std.proofs.Common.{refl}
use Rattle.version_words.proofs.Fronts.{prefix_trans}
use Rattle.hash_table.specs.Changes.{removal_of}
use Rattle.hash_table.proofs.Fronts.{goes_trans, one_more_begins}
use Rattle.hash_table.proofs.Steps.{installed_from, gave_up_trans, may_many}
use Rattle.hash_table.proofs.table.FarTable.remove_if.Goals as goal

pub loop-preserved : goal.loop-preserved
loop-preserved g c = record {
  goes = goes_trans c.loop.invariant.goes (rw c.in-Ok-None.field-0-is at c.in-Ok-None.ensures.round);
  limbo = prefix_trans c.args.caller.now.limbo c.loop.caller.limbo c.remove_if_round.new.caller.limbo c.loop.invariant.limbo (one_more_begins c.loop.caller.limbo c.remove_if_round.new.caller.limbo c.remove_if_round.ensures.limbo);
  left = gave_up_trans _ c.args.caller.now.limbo c.loop.caller.limbo c.remove_if_round.new.caller.limbo c.loop.invariant.left (may_many _ c.loop.caller.limbo c.remove_if_round.new.caller.limbo (rw c.in-Ok-None.field-0-is at c.in-Ok-None.ensures.left));
}

pub returns-in-Ok-Some-clause-installed : goal.returns-in-Ok-Some-clause-installed
returns-in-Ok-Some-clause-installed g c =
    (c.loop.caller.limbo, c.loop.invariant.left, installed_from g.K.FarObject.enc g.V.FarObject.enc g.J.Naming.limits c.args.self.now.limit c.args.self.now.frames _ _ (removal_of c.args.key.now c.in-Ok-Some.removal.removed) _ _ c.loop.invariant.goes refl (rw c.in-Ok-Some.field-0-is at c.in-Ok-Some.ensures.left))
