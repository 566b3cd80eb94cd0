use Rattle.std.proofs.Common.{length, ap, arith}
use Rattle.table_core.specs.Machines.{MachineView}
use Rattle.table_core.proofs.Standing.{names_at}
use Rattle.table_core.proofs.machine.Machine.names.Goals as goal

pub returns : goal.returns
returns g c = λ log s.
    let count = ap (λ (m : MachineView g.row.K.Denot g.row.V.Denot). length m.names) c.self.view_is in
    let all = names_at g.K.FarObject.enc g.V.FarObject.enc c.args.self.now log s in
    omega arith
