use Rattle.far_pairs.specs.Bundles.{all_of}
use Rattle.far_map.proofs.Working.{bundled_by}
use Rattle.far_map.proofs.map.FarMap.close_on_threads.Goals as goal

pub returns-in-Ok-clause-closed : goal.returns-in-Ok-clause-closed
returns-in-Ok-clause-closed g c = bundled_by g.V.FarObject.enc g.J.Naming.limits c.args.callers.items _ c.into_caller.result (all_of c.in-Ok.bundles.items) c.in_ok-all.ensures.all c.into_caller.ensures.no_calls c.in-Ok.ensures.closed

pub returns-clause-fault : goal.returns-clause-fault
returns-clause-fault g c = let f = c.in-Err.ensures.fault in c.of_closing.ensures f.0 f.1
