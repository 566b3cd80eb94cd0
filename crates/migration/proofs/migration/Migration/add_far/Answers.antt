use Rattle.std.proofs.Common.{rules, ◌++◌, subst, arith}
use Rattle.std.specs.List.Sorted.{IsPermutation}
use Rattle.std.specs.Prelude.{OnOk, OnErr, ◌≡◌}
use Rattle.migration.proofs.Parting.{added_far, view_same}
use Rattle.migration.proofs.migration.Migration.add_far.Goals as goal

pub returns-in-Ok-clause-added : goal.returns-in-Ok-clause-added
returns-in-Ok-clause-added g c =
    added_far g.K.FarObject.enc g.V.FarObject.enc g.K.FarObject.dec g.V.FarObject.dec _ _ g.K.FarObject.laws g.V.FarObject.laws _ _ c.self.inside.far c.in-Some.next _ c.self.inside.near.items _ c.args.object.now c.self.view_is c.in-Ok.ensures.writes.written c.as_bytes.ensures.is c.as_bytes.ensures.map (search rules)

pub returns-in-Err-clause-added : goal.returns-in-Err-clause-added
returns-in-Err-clause-added g c =
    let e = view_same g.K.FarObject.enc g.V.FarObject.enc g.K.FarObject.dec g.V.FarObject.dec _ _ c.self.inside.far c.self.inside.far c.self.inside.near.items c.args.self.now c.in-Err.ensures.writes.others (omega arith) c.self.view_is in
    subst (λ z. OnOk c.add_near-in-Err.result (IsPermutation (z ++ c.args.object.now) c.add_near-in-Err.new.self)) e c.add_near-in-Err.ensures.added

pub returns-in-Err-clause-refused : goal.returns-in-Err-clause-refused
returns-in-Err-clause-refused g c =
    let e = view_same g.K.FarObject.enc g.V.FarObject.enc g.K.FarObject.dec g.V.FarObject.dec _ _ c.self.inside.far c.self.inside.far c.self.inside.near.items c.args.self.now c.in-Err.ensures.writes.others (omega arith) c.self.view_is in
    subst (λ z. OnErr c.add_near-in-Err.result (c.add_near-in-Err.new.self ≡ z)) e c.add_near-in-Err.ensures.refused
