use Rattle.far_map.proofs.Working.{handed_by}
use Rattle.far_map.proofs.map.FarMap.close_through.Goals as goal

pub returns-in-Ok-close_through-clause-closed : goal.returns-in-Ok-close_through-clause-closed
returns-in-Ok-close_through-clause-closed g c =
    handed_by g.V.FarObject.enc g.T.TakesPairs.takes c.args.taker.now c.close_through.new.taker g.J.Naming.limits c.args.callers.items _ c.into_caller.result c.in-Ok.ensures.all c.into_caller.ensures.no_calls c.in-Ok-close_through.ensures.closed

pub returns-clause-fault : goal.returns-clause-fault
returns-clause-fault g c = c.of_handing.ensures _ c.args.taker.now c.close_through.new.taker c.in-Err.ensures.fault
