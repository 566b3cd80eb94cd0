use Rattle.plain_run.proofs.Calls.{absent}
use Rattle.plain_run.proofs.table.PlainTable.without.Goals as goal

pub returns-in-None : goal.returns-in-None
returns-in-None c = absent c.args.self.now.limit _ c.args.key.now (rw c.stored-object.ensures at c.in-None.ensures.value)
