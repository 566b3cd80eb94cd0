use Rattle.std.proofs.Common.{◌≡◌, take}
use Rattle.table_core.specs.Machines.{buckets_of, StandsAt}
use Rattle.table_core.proofs.machine.Machine.replay.Given as goal

abbrev pub invariant-loop-at : goal.invariant-loop-at
invariant-loop-at g l = StandsAt g.K.FarObject.enc g.V.FarObject.enc l.machine (take l.at l.events) × (buckets_of l.machine ≡ l.buckets)
