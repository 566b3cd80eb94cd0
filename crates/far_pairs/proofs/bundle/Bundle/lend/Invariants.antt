use Rattle.far_pairs.proofs.Bundling.{Lends}
use Rattle.far_pairs.proofs.bundle.Bundle.lend.Given as goal

abbrev pub invariant-loop-i : goal.invariant-loop-i
invariant-loop-i g l =
    Lends g.K.FarObject.enc g.V.FarObject.enc g.K.FarObject.admits g.V.FarObject.admits l.self l.fn.lent.items l.lent.items l.rest l._i l._i-end
