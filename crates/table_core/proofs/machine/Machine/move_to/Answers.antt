use Rattle.table_core.proofs.Standing.{moved}
use Rattle.table_core.proofs.machine.Machine.move_to.Goals as goal

pub returns-clause-ok : goal.returns-clause-ok
returns-clause-ok g c = λ log s.
    moved g.K.FarObject.enc g.V.FarObject.enc c.args.self.now log s c.install.new.self c.args.bucket c.args.word c.install.ensures c.in_ok-judge_move.ensures.within (c.in_ok-judge_move.ensures.ok log s)
