use Rattle.table_core.specs.declared.operation.Operation.TheVariants.{Get}
use Rattle.hash_table.proofs.Fronts.{goes_trans}
use Rattle.far_map.specs.Refusals.{said}
use Rattle.far_map.proofs.Trying.{held_tries, refused_from}
use Rattle.far_map.proofs.held_value.open_near.Goals as goal

pub returns-in-Ok-clause-tries : goal.returns-in-Ok-clause-tries
returns-in-Ok-clause-tries g c = held_tries g.V.FarObject.enc g.J.Naming.limits c.args.table.now.limit c.args.caller.now.pass c.loop.caller.pass c.open_scope.new.caller.pass c.args.key.now c.in-Ok.held c.loop.invariant.0 c.in-Ok.ensures.finished

pub returns-in-Err-bring-clause-tries : goal.returns-in-Err-bring-clause-tries
returns-in-Err-bring-clause-tries g c =
    refused_from g.V.FarObject.enc g.J.Naming.limits c.args.table.now.limit c.args.caller.now.pass c.open_scope.new.caller.pass c.bring.new.caller.pass (Get c.args.key.now) (said c.in-Err-bring.refusal)
    (goes_trans c.loop.invariant.0 c.in-Err-Far.ensures.goes) c.in-Err-bring.ensures.refused
