use Rattle.table_core.proofs.Standing.{drew}
use Rattle.table_core.proofs.machine.Machine.name.Goals as goal

pub returns-clause-ok : goal.returns-clause-ok
returns-clause-ok g c = λ log s.
    drew g.K.FarObject.enc g.V.FarObject.enc c.args.self.now log s c.push_name.new.self c.names.result c.args.bucket c.args.pairs c.as_slice.result.now c.in_ok-push_name.ensures.ok c.as_slice.ensures (c.in_ok-judge_naming.ensures.ok log s) c.names.ensures
