use Rattle.far_map.proofs.Trying.{change_refused}
use Rattle.far_map.proofs.Removals.{removal_made, met}
use Rattle.table_core.specs.declared.operation.Operation.TheVariants.{Remove}
use Rattle.far_map.proofs.removal.remove_now.Goals as goal

pub returns-in-Ok-clause-tries : goal.returns-in-Ok-clause-tries
returns-in-Ok-clause-tries g c =
    removal_made g.V.FarObject.enc g.J.Naming.limits c.args.table.now.limit c.args.table.now.frames c.args.caller.now.limbo c.remove_if.new.caller.limbo c.args.caller.now.pass c.remove_if.new.caller.pass c.args.key.now
    c.in-Ok.removal.removed c.in-Ok.removal.found c.in-Ok.ensures.finished c.in-Ok.ensures.installed

pub returns-in-Ok-clause-met : goal.returns-in-Ok-clause-met
returns-in-Ok-clause-met g c =
    met g.V.FarObject.enc g.V.FarObject.admits c.equal_encodings_are_equal_values.ensures c.args.expected.now c.in-Ok.removal.found c.in-Ok.removal.removed c.admitted.ensures c.admitted-in-Ok.ensures c.in-Ok.ensures.met

pub returns-in-Err-clause-tries : goal.returns-in-Err-clause-tries
returns-in-Err-clause-tries g c =
    change_refused g.V.FarObject.enc g.J.Naming.limits c.args.table.now.limit c.args.caller.now.pass c.remove_if.new.caller.pass (Remove c.args.key.now) c.in-Err.refusal c.in-Err.ensures.goes c.in-Err.ensures.refused
