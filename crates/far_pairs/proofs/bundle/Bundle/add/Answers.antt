use Rattle.std.proofs.Common.{◌∙◌, ap, ◌++◌}
use Rattle.far_pairs.proofs.Bundling.{added}
use Rattle.far_pairs.proofs.bundle.Bundle.add.Goals as goal

pub invariant_of-self : goal.invariant_of-self
invariant_of-self g c =
    let h = added _ _ _ _ _ _ g.K.FarObject.laws g.V.FarObject.laws c.self.inside.count c.count.result c.in-Some.count c.self.inside.bytes.items c.as_bytes-bytes.result.now c.extend_from_slice.new.self.items c.args.object.now
    c.self.invariant c.as_bytes-bytes.ensures.is c.as_bytes-bytes.ensures.map c.count.ensures c.in-Some.ensures.1 c.in-Ok.ensures.items in
    h.bundle

pub returns-in-Ok-clause-ok : goal.returns-in-Ok-clause-ok
returns-in-Ok-clause-ok g c =
    let h = added _ _ _ _ _ _ g.K.FarObject.laws g.V.FarObject.laws c.self.inside.count c.count.result c.in-Some.count c.self.inside.bytes.items c.as_bytes-bytes.result.now c.extend_from_slice.new.self.items c.args.object.now
    c.self.invariant c.as_bytes-bytes.ensures.is c.as_bytes-bytes.ensures.map c.count.ensures c.in-Some.ensures.1 c.in-Ok.ensures.items in
    h.reads ∙ ap (λ z. z ++ c.args.object.now) c.self.view_is
