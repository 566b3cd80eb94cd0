use Rattle.far_object.specs.Spots.{spot_from}
use Rattle.far_object.proofs.Walks.{Walk}
use Rattle.far_object.proofs.object.Object.locate.Given as goal

abbrev pub invariant-loop-i : goal.invariant-loop-i
invariant-loop-i g l =
    Walk g.K.FarObject.enc g.V.FarObject.enc g.K.FarObject.admits g.V.FarObject.admits l.key l.bytes l.at l._i l._i-end (spot_from g.K.FarObject.enc g.V.FarObject.enc l.key 4 l.self)
