use Rattle.hash_table.proofs.Ends.{pairs_alone}
use Rattle.hash_table.proofs.table.FarTable.bundle_by_first.Goals as goal

pub returns-in-Ok-push-clause-pairs : goal.returns-in-Ok-push-clause-pairs
returns-in-Ok-push-clause-pairs g c = pairs_alone g.K.FarObject.enc g.V.FarObject.enc g.J.Naming.limits c.args.mark.now c.gather_by_first.new.callers c.args.from c.args.count c.new-alone.result.items c.push.new.self.items c.in-Ok.bundle c.in-Ok-in_order.sorted c.new-alone.ensures.items c.in-Ok-push.ensures.items c.in-Ok-in_order.ensures.same c.in-Ok.ensures.pairs
