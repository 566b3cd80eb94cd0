use Rattle.std.proofs.Common.{◌≡◌, ◌+◌, ℕ}
use Rattle.std.specs.Prelude.{eqb}
use Rattle.far_object.specs.Faults.{fault_in, fault_of}
use Rattle.far_object.proofs.object.read.first_fault.Given as goal

abbrev pub invariant-loop-i : goal.invariant-loop-i
invariant-loop-i g l =
    (left : ℕ) × (l.i + left ≡ l.count) × (fault_in g.K.FarObject.enc g.V.FarObject.enc g.K.FarObject.dec g.V.FarObject.dec left (eqb l.i 0) l.last l.rest ≡ fault_of g.K.FarObject.enc g.V.FarObject.enc g.K.FarObject.dec g.V.FarObject.dec l.bytes)
