use Rattle.table_core.specs.declared.operation.Operation.TheVariants as op
use Rattle.hash_table.specs.Steps.{IsOfFrame}
use Rattle.hash_table.proofs.Fronts.{goes_trans, finished_from}
use Rattle.hash_table.proofs.Steps.{installed_from, may_give_up}
use Rattle.hash_table.proofs.table.FarTable.remove_if_round.Goals.{in-Ok-settle, in-Err-settle+in-Ok-again-2, in-Err-settle+in-Err-again-2}
use Rattle.hash_table.proofs.table.FarTable.remove_if_round.Goals as goal

pub returns-then-is_met-clause-round : goal.returns-then-is_met-clause-round
returns-then-is_met-clause-round g c = elim c.match-settle.branch [
  | in-Ok-settle w ↦ rw w.result-is (finished_from g.K.FarObject.enc g.V.FarObject.enc g.J.Naming.limits (op.Remove c.args.key.now) w.in-Ok-settle.found c.look-word.ensures.pass w.in-Ok-settle.ensures.finished)
  | in-Err-settle+in-Ok-again-2 w ↦ rw (w.result-is, w.in-Ok-again-2.ensures) (goes_trans c.look-word.ensures.pass w.in-Err-settle.ensures.goes)
  | in-Err-settle+in-Err-again-2 w ↦ rw w.result-is tt
]

pub returns-then-is_met-clause-left : goal.returns-then-is_met-clause-left
returns-then-is_met-clause-left g c = elim c.match-settle.branch [
  | in-Ok-settle w ↦
      rw w.result-is
      (installed_from g.K.FarObject.enc g.V.FarObject.enc g.J.Naming.limits c.args.self.now.limit c.args.self.now.frames c.bucket-b.result _ (op.Remove c.args.key.now) _ _ c.look-word.ensures.pass c.bucket-b.ensures.is w.in-Ok-settle.ensures.installed)
  | in-Err-settle+in-Ok-again-2 w ↦
      rw (w.result-is, w.in-Ok-again-2.ensures) (rw c.bucket-b.ensures.is at (may_give_up (IsOfFrame c.args.self.now.frames c.bucket-b.result) c.args.caller.now.limbo c.settle.new.limbo w.in-Err-settle.refusal w.in-Err-settle.ensures.given_up))
  | in-Err-settle+in-Err-again-2 w ↦ rw w.result-is tt
]

pub returns-in-Ok-settle-2-clause-round : goal.returns-in-Ok-settle-2-clause-round
returns-in-Ok-settle-2-clause-round g c = finished_from g.K.FarObject.enc g.V.FarObject.enc g.J.Naming.limits (op.Get c.args.key.now) c.in-Ok-settle-2.found c.look-word.ensures.pass c.in-Ok-settle-2.ensures.finished

pub returns-in-Ok-settle-2-clause-left : goal.returns-in-Ok-settle-2-clause-left
returns-in-Ok-settle-2-clause-left g c =
    installed_from g.K.FarObject.enc g.V.FarObject.enc g.J.Naming.limits c.args.self.now.limit c.args.self.now.frames c.bucket-b.result _ (op.Get c.args.key.now) _ _ c.look-word.ensures.pass c.bucket-b.ensures.is c.in-Ok-settle-2.ensures.installed

pub returns-in-Ok-again-3-clause-left : goal.returns-in-Ok-again-3-clause-left
returns-in-Ok-again-3-clause-left g c =
    rw c.in-Ok-again-3.ensures (rw c.bucket-b.ensures.is at (may_give_up (IsOfFrame c.args.self.now.frames c.bucket-b.result) c.args.caller.now.limbo c.settle-2.new.limbo c.in-Err-settle-2.refusal c.in-Err-settle-2.ensures.given_up))
