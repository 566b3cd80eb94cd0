use Rattle.table_core.specs.Lent.{lent}
use Rattle.table_core.proofs.Standing.{followed, followed_move}
use Rattle.table_core.proofs.machine.Machine.follow.Goals as goal

pub returns-in_ok-bucket-in-Done-clause-ok : goal.returns-in_ok-bucket-in-Done-clause-ok
returns-in_ok-bucket-in-Done-clause-ok g c = λ log s.
    followed g.K.FarObject.enc g.V.FarObject.enc c.args.self.now log s c.install.new.self c.args.event.now c.in-Done.pass c.in_ok-bucket-in-Done.bucket (lent c.of.result) c.in-Done.operation c.in-Done.word c.install.ensures
    c.in_ok-bucket-in-Done.ensures.bucket.0 c.in_ok-bucket-in-Done.ensures.bucket.1 (c.in_ok-bucket-in-Done.ensures.ok log s) c.of.ensures c.in-Done.is

pub returns-in_ok-judge_move-in-Moved-clause-ok : goal.returns-in_ok-judge_move-in-Moved-clause-ok
returns-in_ok-judge_move-in-Moved-clause-ok g c = λ log s.
    followed_move g.K.FarObject.enc g.V.FarObject.enc c.args.self.now log s c.install-in-Moved.new.self c.args.event.now c.in-Moved.bucket c.in-Moved.word c.install-in-Moved.ensures
    c.in_ok-judge_move-in-Moved.ensures.within (c.in_ok-judge_move-in-Moved.ensures.ok log s) c.in-Moved.is
