use Rattle.far_map.proofs.map.FarMap.close.Goals as goal

pub returns-clause-fault : goal.returns-clause-fault
returns-clause-fault g c = c.of_closing.ensures _ c.in-Err.ensures.fault
