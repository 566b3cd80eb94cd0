use Rattle.std.proofs.Common.{◌∙◌, ap}
use Rattle.far_object.specs.Buckets.{bucket}
use Rattle.table_core.specs.Lent.{lent}
use Rattle.hash_table.proofs.Fronts.{finished_from}
use Rattle.hash_table.proofs.Refused.{unbuilt_refused, unpublished_unchanged}
use Rattle.hash_table.proofs.Steps.{installed_from}
use Rattle.hash_table.proofs.table.FarTable.try_change.Goals as goal

pub returns-in-Ok-settle-clause-finished : goal.returns-in-Ok-settle-clause-finished
returns-in-Ok-settle-clause-finished g c = finished_from g.K.FarObject.enc g.V.FarObject.enc g.J.Naming.limits (lent c.args.operation.now) c.in-Ok-settle.answer c.look-word.ensures.pass c.in-Ok-settle.ensures.finished

pub returns-in-Err-clause-refused : goal.returns-in-Err-clause-refused
returns-in-Err-clause-refused g c =
    let is = c.bucket-b.ensures.is ∙ ap (λ k. bucket g.K.FarObject.enc g.J.Naming.limits.buckets k) c.key.ensures in
    unbuilt_refused g.K.FarObject.enc g.V.FarObject.enc g.J.Naming.limits c.args.self.now.limit c.bucket-b.result _ c.look-word.result (lent c.args.operation.now) c.in-Err.refusal c.look-word.ensures.pass c.look-word.ensures.lawful is c.look-word.ensures.word c.in-Err.ensures.why

pub returns-clause-refused : goal.returns-clause-refused
returns-clause-refused g c =
    let is = c.bucket-b.ensures.is ∙ ap (λ k. bucket g.K.FarObject.enc g.J.Naming.limits.buckets k) c.key.ensures in
    unpublished_unchanged g.K.FarObject.enc g.V.FarObject.enc g.J.Naming.limits c.args.self.now.limit c.bucket-b.result _ c.look-word.result (lent c.args.operation.now) c.in-Err-settle.refusal c.look-word.ensures.pass c.in-Err-settle.ensures.goes is c.look-word.ensures.word c.in-Err-settle.ensures.why

pub returns-in-Ok-settle-clause-installed : goal.returns-in-Ok-settle-clause-installed
returns-in-Ok-settle-clause-installed g c =
    let is = c.bucket-b.ensures.is ∙ ap (λ k. bucket g.K.FarObject.enc g.J.Naming.limits.buckets k) c.key.ensures in
    installed_from g.K.FarObject.enc g.V.FarObject.enc g.J.Naming.limits c.args.self.now.limit c.args.self.now.frames c.bucket-b.result _ (lent c.args.operation.now) _ _ c.look-word.ensures.pass is c.in-Ok-settle.ensures.installed
