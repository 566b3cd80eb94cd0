use Rattle.std.proofs.Common.{◌∙◌, ap, sym, subst}
use Rattle.far_object.specs.Buckets.{bucket}
use Rattle.table_core.specs.Maps.{key_of}
use Rattle.hash_table.specs.Calls.{IsUnchanged}
use Rattle.table_core.specs.Lent.{lent}
use Rattle.hash_table.proofs.Fronts.{goes_self, goes_trans, finished_from}
use Rattle.hash_table.proofs.Refused.{unbuilt_far_refused}
use Rattle.hash_table.proofs.Steps.{installed_from}
use Rattle.hash_table.proofs.table.FarTable.change_round.Goals.{in-Ok-after, in-Err-after}
use Rattle.hash_table.proofs.table.FarTable.change_round.Goals as goal

pub returns-in-Ok-settle-clause-round : goal.returns-in-Ok-settle-clause-round
returns-in-Ok-settle-clause-round g c = finished_from g.K.FarObject.enc g.V.FarObject.enc g.J.Naming.limits (lent c.args.operation.now) c.in-Ok-settle.answer c.look-word.ensures.pass c.in-Ok-settle.ensures.finished

pub returns-in-Err-clause-refused : goal.returns-in-Err-clause-refused
returns-in-Err-clause-refused g c =
    let o = lent c.args.operation.now in
    let k = bucket g.K.FarObject.enc g.J.Naming.limits.buckets (key_of o) in
    let is = c.bucket-b.ensures.is ∙ ap (λ key. bucket g.K.FarObject.enc g.J.Naming.limits.buckets key) c.key.ensures in
    let why = unbuilt_far_refused g.K.FarObject.enc g.V.FarObject.enc g.J.Naming.limits c.args.self.now.limit c.bucket-b.result k c.look-word.result o c.in-Err.refusal c.look-word.ensures.pass c.look-word.ensures.lawful is c.look-word.ensures.word c.in-Err.ensures.why in
    elim c.match-after.branch [
      | in-Ok-after w ↦ rw w.result-is tt
      | in-Err-after w ↦ rw w.result-is (subst (λ e. IsUnchanged g.K.FarObject.enc g.V.FarObject.enc g.J.Naming.limits c.args.self.now.limit k o c.args.caller.now.pass c.look-word.new.pass e) (sym w.in-Err-after.ensures.0) why)
    ]

pub returns-then-is_full-clause-goes : goal.returns-then-is_full-clause-goes
returns-then-is_full-clause-goes g c = goes_self c.args.caller.now.pass

pub returns-clause-goes : goal.returns-clause-goes
returns-clause-goes g c = goes_trans c.look-word.ensures.pass c.in-Err-settle.ensures.goes

pub returns-in-Ok-settle-clause-left : goal.returns-in-Ok-settle-clause-left
returns-in-Ok-settle-clause-left g c =
    let is = c.bucket-b.ensures.is ∙ ap (λ k. bucket g.K.FarObject.enc g.J.Naming.limits.buckets k) c.key.ensures in
    installed_from g.K.FarObject.enc g.V.FarObject.enc g.J.Naming.limits c.args.self.now.limit c.args.self.now.frames c.bucket-b.result _ (lent c.args.operation.now) _ _ c.look-word.ensures.pass is c.in-Ok-settle.ensures.installed
