use Rattle.std.proofs.Common.{refl}
use Rattle.std.specs.Prelude.{None}
use Rattle.std.proofs.lemmas.Result.{IfOk-weaker}
use Rattle.table_core.specs.declared.operation.Operation.TheVariants.{Get}
use Rattle.table_core.proofs.Standing.{done}
use Rattle.table_core.proofs.machine.Machine.get.Goals as goal

pub returns-clause-ok : goal.returns-clause-ok
returns-clause-ok g c =
    IfOk-weaker c.answer.result _ _
    (λ a answers log s.
    done g.K.FarObject.enc g.V.FarObject.enc c.args.self.now log s c.args.self.now c.args.pass c.in_ok-bucket.bucket (Get c.args.key.now) None a refl c.in_ok-bucket.ensures.bucket.0 c.in_ok-bucket.ensures.bucket.1 answers
    (c.in_ok-bucket.ensures.ok log s))
    c.answer.ensures.ok
