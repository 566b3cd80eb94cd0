use Rattle.std.proofs.Common.{◌∙◌, ap, subst}
use Rattle.std.specs.List.{between}
use Rattle.far_object.specs.Objects.{object_of, IsMap}
use Rattle.hash_table.proofs.Values.{encoded}
use Rattle.hash_table.proofs.scope.TableScope.bytes.Goals as goal

pub returns-clause-encoding : goal.returns-clause-encoding
returns-clause-encoding g c =
    let ek = g.K.FarObject.enc in
    let ev = g.V.FarObject.enc in
    let s = c.self.inside in
    let map = subst (λ es. IsMap ek g.K.FarObject.admits g.V.FarObject.admits es) c.object.ensures.object c.as_bytes.ensures.map in
    rw (← c.self.view_is) (encoded ek ev g.V.FarObject.dec g.K.FarObject.admits g.V.FarObject.admits g.V.FarObject.laws c.self.invariant.0 s.scope.object s.place _ map c.self.invariant.1
    (ap (λ bs. between s.place.start s.place.end bs) (c.as_bytes.ensures.is ∙ ap (λ es. object_of ek ev es) c.object.ensures.object)))
