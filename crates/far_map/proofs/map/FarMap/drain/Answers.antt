use Rattle.far_map.proofs.Generating.{drained_by}
use Rattle.far_map.proofs.map.FarMap.drain.Goals as goal

pub returns-in-Ok-drain-clause-drained : goal.returns-in-Ok-drain-clause-drained
returns-in-Ok-drain-clause-drained g c =
    drained_by g.V.FarObject.enc g.J.Naming.limits c.args.callers.items c.in-Ok.all.items c.into_caller.result c.in-Ok.ensures.all c.into_caller.ensures.no_calls c.args.rest.now c.drain.new.rest c.in-Ok-drain.left.lost c.in-Ok-drain.ensures.drained

pub returns-clause-fault : goal.returns-clause-fault
returns-clause-fault g c = c.of_closing.ensures _ c.in-Err.ensures.fault
