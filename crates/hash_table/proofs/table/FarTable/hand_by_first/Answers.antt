use Rattle.hash_table.proofs.Ends.{back_first, in_order_by_first}
use Rattle.hash_table.proofs.Takers.{hands_map}
use Rattle.hash_table.proofs.table.FarTable.hand_by_first.Goals as goal

pub returns-in-Ok-clause-back : goal.returns-in-Ok-clause-back
returns-in-Ok-clause-back g c =
    let p = c.hand_buckets.ensures in
    back_first g.K.FarObject.enc g.V.FarObject.enc g.J.Naming.limits c.args.callers.now c.index-callers-0.result c.hand_buckets.new.caller c.requires.some c.index-callers-0.is (rw (← c.index-callers-0.is) at p.goes) (rw (← c.index-callers-0.is) at p.limbo)

pub returns-in-Ok-clause-pairs : goal.returns-in-Ok-clause-pairs
returns-in-Ok-clause-pairs g c =
    hands_map g.T.TakesPairs.takes _ _ c.args.taker.now c.hand_buckets.new.taker
    (λ pairs so. in_order_by_first g.K.FarObject.enc g.V.FarObject.enc g.J.Naming.limits c.args.mark.now c.args.callers.now c.hand_buckets.new.caller pairs c.requires.some so) c.in-Ok.ensures.pairs
