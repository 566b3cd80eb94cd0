use Rattle.std.proofs.Common.{ap, ◌∙◌}
use Rattle.table_core.specs.Changes.{standing_at}
use Rattle.table_core.specs.Lent.{lent}
use Rattle.table_core.specs.Maps.{value_at}
use Rattle.table_core.proofs.Standing.{done}
use Rattle.table_core.proofs.machine.Machine.done.Goals as goal

pub returns-clause-ok : goal.returns-clause-ok
returns-clause-ok g c = λ log s.
    let ek = g.K.FarObject.enc in
    let b = c.in_ok-bucket.bucket in
    done ek g.V.FarObject.enc c.args.self.now log s c.install.new.self c.args.pass b (lent c.args.asked.now) c.args.word c.in_ok-answer.answer c.install.ensures c.in_ok-bucket.ensures.bucket.0 c.in_ok-bucket.ensures.bucket.1
    (λ so. c.in_ok-answer.ensures.ok so ∙ ap (λ (k : g.row.K.Denot). value_at ek k (standing_at c.args.self.now b)) c.key.ensures) (c.in_ok-bucket.ensures.ok log s)
