use Rattle.far_pairs.proofs.Bundling.{lends_start, lends_next, lends_end}
use Rattle.far_pairs.proofs.bundle.Bundle.lend.Goals as goal

pub loop-i-init : goal.loop-i-init
loop-i-init g c = lends_start _ _ _ _ _ _ g.K.FarObject.laws g.V.FarObject.laws _ _ _ _ _ _ c.self.invariant c.self.view_is c.in_ok-reserve.ensures.items c.as_slice-rest.ensures.value

pub first-pair-requires : goal.first-pair-requires
first-pair-requires g c =
    let h = lends_next _ _ _ _ _ _ _ _ _ _ c.loop-i.invariant c.loop-i-test.true in
    (h.pair, h.begins)

pub loop-i-preserved : goal.loop-i-preserved
loop-i-preserved g c =
    let h = lends_next _ _ _ _ _ _ _ _ _ _ c.loop-i.invariant c.loop-i-test.true in
    let p = c.first-pair.ensures.is h.pair h.begins in
    h.next _ c.push.new.self.items _ c.in_ok-push.ensures.items p.0 p.1

pub returns : goal.returns
returns g c = lends_end _ _ _ _ _ _ _ _ _ _ c.loop-i.invariant c.loop-i-test.false
