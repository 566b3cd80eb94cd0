use Rattle.hash_table.proofs.Ends.{back_first, pairs_by_first}
use Rattle.hash_table.proofs.table.FarTable.gather_by_first.Goals as goal

pub returns-in-Ok-clause-back : goal.returns-in-Ok-clause-back
returns-in-Ok-clause-back g c =
    let p = c.gather_range.ensures in
    back_first g.K.FarObject.enc g.V.FarObject.enc g.J.Naming.limits c.args.callers.now c.index-callers-0.result c.gather_range.new.caller c.requires.some c.index-callers-0.is (rw (← c.index-callers-0.is) at p.goes) (rw (← c.index-callers-0.is) at p.limbo)

pub returns-in-Ok-clause-pairs : goal.returns-in-Ok-clause-pairs
returns-in-Ok-clause-pairs g c = pairs_by_first g.K.FarObject.enc g.V.FarObject.enc g.J.Naming.limits c.args.mark.now c.args.callers.now c.gather_range.new.caller c.args.from c.args.count (g.G.Gathering.gathered c.in-Ok.all) c.requires.some c.in-Ok.ensures.pairs
