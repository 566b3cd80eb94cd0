use Rattle.std.proofs.Common.{length, drop, ap, arith}
use Rattle.std.proofs.lemmas.List.{take_rest}
use Rattle.far_object.proofs.Long.{long_bytes}
use Rattle.far_object.proofs.object.Object.as_bytes.Goals as goal

pub returns-clause-long : goal.returns-clause-long
returns-clause-long g c =
    let object = c.self.invariant.1 in
    let pairs = ap length c.self.view_is in
    let rest = ap length (take_rest c.deref.result.now c.self.inside.start) in
    let same = ap (λ z. length (drop c.self.inside.start z)) c.deref.ensures.value in
    omega (arith, long_bytes g.K.FarObject.enc g.V.FarObject.enc _ _ object.is object.map.rising, pairs, rest, same)
