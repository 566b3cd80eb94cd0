use Rattle.far_map.proofs.Trying.{change_refused, change_made}
use Rattle.far_map.proofs.change_request.call.Goals as goal

pub returns-in-Err-clause-tries : goal.returns-in-Err-clause-tries
returns-in-Err-clause-tries g c =
    rw c.in-Put.is (change_refused g.V.FarObject.enc g.J.Naming.limits c.args.table.now.limit c.args.caller.now.pass c.put.new.caller.pass _ c.in-Err.refusal c.in-Err.ensures.goes c.in-Err.ensures.refused)

pub returns-in-Err-remove-clause-tries : goal.returns-in-Err-remove-clause-tries
returns-in-Err-remove-clause-tries g c =
    rw c.in-Remove.is (change_refused g.V.FarObject.enc g.J.Naming.limits c.args.table.now.limit c.args.caller.now.pass c.remove.new.caller.pass _ c.in-Err-remove.refusal c.in-Err-remove.ensures.goes c.in-Err-remove.ensures.refused)

pub returns-in-Err-put_if-clause-tries : goal.returns-in-Err-put_if-clause-tries
returns-in-Err-put_if-clause-tries g c =
    rw c.in-PutIf.is (change_refused g.V.FarObject.enc g.J.Naming.limits c.args.table.now.limit c.args.caller.now.pass c.put_if.new.caller.pass _ c.in-Err-put_if.refusal c.in-Err-put_if.ensures.goes c.in-Err-put_if.ensures.refused)

pub returns-in-Ok-clause-tries : goal.returns-in-Ok-clause-tries
returns-in-Ok-clause-tries g c =
    rw c.in-Put.is (change_made g.V.FarObject.enc g.J.Naming.limits c.args.table.now.limit c.args.table.now.frames c.args.caller.now.limbo c.put.new.caller.limbo c.args.caller.now.pass c.put.new.caller.pass _ c.in-Ok.answer c.in-Ok.ensures.finished c.in-Ok.ensures.installed)

pub returns-in-Ok-remove-clause-tries : goal.returns-in-Ok-remove-clause-tries
returns-in-Ok-remove-clause-tries g c =
    rw c.in-Remove.is (change_made g.V.FarObject.enc g.J.Naming.limits c.args.table.now.limit c.args.table.now.frames c.args.caller.now.limbo c.remove.new.caller.limbo c.args.caller.now.pass c.remove.new.caller.pass _ c.in-Ok-remove.answer c.in-Ok-remove.ensures.finished c.in-Ok-remove.ensures.installed)

pub returns-in-Ok-put_if-clause-tries : goal.returns-in-Ok-put_if-clause-tries
returns-in-Ok-put_if-clause-tries g c =
    rw c.in-PutIf.is (change_made g.V.FarObject.enc g.J.Naming.limits c.args.table.now.limit c.args.table.now.frames c.args.caller.now.limbo c.put_if.new.caller.limbo c.args.caller.now.pass c.put_if.new.caller.pass _ c.in-Ok-put_if.answer c.in-Ok-put_if.ensures.finished c.in-Ok-put_if.ensures.installed)
