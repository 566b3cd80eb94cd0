use Rattle.std.proofs.Common.{sym, ◌∙◌}
use Rattle.resp_device.proofs.Calls.{removes_absent, removes_there}
use Rattle.resp_device.proofs.device.RespDeviceDevice.remove.Goals as goal

pub returns-then-not-has-clause-removes : goal.returns-then-not-has-clause-removes
returns-then-not-has-clause-removes g c =
    removes_absent c.args.self.now.index.objects.entries c.args.self.now.failures.count c.args.id (sym c.has.ensures ∙ c.if-not-has.true)

pub returns-clause-removes : goal.returns-clause-removes
returns-clause-removes g c =
    removes_there c.args.self.now.index.objects.entries c.remove.new.self.objects.entries c.args.self.now.failures.count c.args.id (sym c.has.ensures ∙ c.if-not-has.false) c.remove.ensures
