use Rattle.hash_table.proofs.Ends.{back_first}
use Rattle.hash_table.proofs.Drains.{drained_by_first}
use Rattle.hash_table.proofs.table.FarTable.drain_by_first.Goals as goal

pub returns-clause-back : goal.returns-clause-back
returns-clause-back g c =
    let p = c.drain_buckets.ensures in
    back_first g.K.FarObject.enc g.V.FarObject.enc g.J.Naming.limits c.args.callers.now c.index-callers-0.result c.drain_buckets.new.caller c.requires.some c.index-callers-0.is (rw (← c.index-callers-0.is) at p.goes) (rw (← c.index-callers-0.is) at p.limbo)

pub returns-clause-drained : goal.returns-clause-drained
returns-clause-drained g c =
    drained_by_first g.K.FarObject.enc g.V.FarObject.enc g.J.Naming.limits c.args.mark.now c.args.callers.now c.drain_buckets.new.caller g.J.Naming.limits.buckets c.args.rest.now c.drain_buckets.new.rest c.drain_buckets.result.lost c.requires.some
    c.drain_buckets.ensures.drained
