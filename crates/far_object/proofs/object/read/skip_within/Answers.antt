use Rattle.std.proofs.Common.{arith}
use Rattle.far_object.specs.Encodings.{AreBytes}
use Rattle.far_object.proofs.Faulting.{skip_fits}
use Rattle.far_object.proofs.object.read.skip_within.Goals as goal

pub returns-clause-bytes : goal.returns-clause-bytes
returns-clause-bytes g c = λ i. omega (arith, c.type_inv.bytes i)

pub returns-clause-within : goal.returns-clause-within
returns-clause-within g c =
    let fit : AreBytes c.args.bytes.now = λ i. omega (arith, c.type_inv.bytes i) in
    skip_fits _ _ _ g.T.FarObject.laws c.args.bytes.now fit c.skip.result c.skip.ensures
