use Rattle.std.proofs.Common.{◌∙◌}
use Rattle.far_map.proofs.Generating.{front_by}
use Rattle.far_map.proofs.map.FarMap.end.Goals as goal

pub returns-in-Ok-clause-front : goal.returns-in-Ok-clause-front
returns-in-Ok-clause-front g c = front_by g.V.FarObject.enc g.J.Naming.limits c.args.callers.items c.deref_mut.result.now c.into_caller.result (c.deref_mut.ensures.value ∙ c.in_ok-all.ensures.all) c.into_caller.ensures.no_calls c.in-Ok.mark c.in-Ok.ensures.front

pub returns-clause-fault : goal.returns-clause-fault
returns-clause-fault g c = c.of_closing.ensures _ c.in-Err.ensures.fault
