use Rattle.hash_table.proofs.Ends.{told_mids}
use Rattle.hash_table.proofs.table.FarTable.gather.Goals as goal

pub returns-in-Ok-clause-front : goal.returns-in-Ok-clause-front
returns-in-Ok-clause-front g c =
    let e = c.in-Ok.ensures in
    record { lawful = e.lawful; all = e.all; apart = e.apart; whole = e.whole; no_other = e.no_other }

pub returns-in-Ok-clause-told : goal.returns-in-Ok-clause-told
returns-in-Ok-clause-told g c =
    let e = c.in-Ok.ensures in
    told_mids g.K.FarObject.enc g.V.FarObject.enc g.J.Naming.limits c.in-Ok.mark c.args.callers.now c.gather.new.holders e.count e.told
