use Rattle.std.proofs.Common.{◌≡◌, ◌+◌, ap, arith}
use Rattle.table_core.specs.Logs.{passes_of}
use Rattle.table_core.specs.Machines.{MachineView}
use Rattle.table_core.proofs.Standing.{entered}
use Rattle.table_core.proofs.machine.Machine.enter.Goals as goal

pub returns-clause-ok : goal.returns-clause-ok
returns-clause-ok g c = λ log s.
    let count = ap (λ (m : MachineView g.row.K.Denot g.row.V.Denot). m.passes) c.self.view_is in
    let next : c.self.inside.passes + 1 ≡ passes_of log + 1 = omega (arith, s.passes) in
    entered g.K.FarObject.enc g.V.FarObject.enc c.args.self.now log s _ c.self.view_is (c.self.inside.passes + 1) next (omega arith)
