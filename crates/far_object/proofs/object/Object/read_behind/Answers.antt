use Rattle.std.proofs.Common.{◌≡◌, ◌-◌, List, take, drop, length, ap, sym, ◌∙◌, subst}
use Rattle.std.proofs.lemmas.List.{take_rest}
use Rattle.std.specs.Prelude.{Some}
use Rattle.far_object.specs.Decoded.{decoded_pairs}
use Rattle.far_object.specs.Faults.{fault_of}
use Rattle.far_object.specs.Objects.{object_of, IsMap}
use Rattle.far_object.proofs.Complete.{never}
use Rattle.far_object.proofs.Sound.{sound_at}
use Rattle.far_object.proofs.object.Object.read_behind.Goals as goal

pub behind-requires-clause-object : goal.behind-requires-clause-object
behind-requires-clause-object g c =
    let o = sound_at _ _ _ _ _ _ g.K.FarObject.laws g.V.FarObject.laws c.args.bytes.items c.as_slice.result.now c.args.start c.as_slice.ensures.value c.in-None.ensures.bytes c.in-None.ensures.first in
    (decoded_pairs g.K.FarObject.enc g.V.FarObject.enc g.K.FarObject.dec g.V.FarObject.dec (drop c.args.start c.args.bytes.items), o.is, o.map)

pub returns-in-None-clause-spelled : goal.returns-in-None-clause-spelled
returns-in-None-clause-spelled g c =
    let o = sound_at _ _ _ _ _ _ g.K.FarObject.laws g.V.FarObject.laws c.args.bytes.items c.as_slice.result.now c.args.start c.as_slice.ensures.value c.in-None.ensures.bytes c.in-None.ensures.first in
    o.is ∙ ap (λ (z : List (g.row.K.Denot × g.row.V.Denot)). object_of g.K.FarObject.enc g.V.FarObject.enc z) (sym (c.behind.ensures _ o.is o.map))

pub returns-in-None-clause-map : goal.returns-in-None-clause-map
returns-in-None-clause-map g c =
    let o = sound_at _ _ _ _ _ _ g.K.FarObject.laws g.V.FarObject.laws c.args.bytes.items c.as_slice.result.now c.args.start c.as_slice.ensures.value c.in-None.ensures.bytes c.in-None.ensures.first in
    subst (λ (z : List (g.row.K.Denot × g.row.V.Denot)). IsMap g.K.FarObject.enc g.K.FarObject.admits g.V.FarObject.admits z) (sym (c.behind.ensures _ o.is o.map)) o.map

pub returns-in-Some-clause-first : goal.returns-in-Some-clause-first
returns-in-Some-clause-first g c =
    let r : take (length c.as_slice.result.now - c.args.start) (drop c.args.start c.as_slice.result.now) ≡ drop c.args.start c.args.bytes.items = take_rest c.as_slice.result.now c.args.start ∙ ap (λ z. drop c.args.start z) c.as_slice.ensures.value in
    sym (c.in-Some.ensures.first ∙ ap (λ z. fault_of g.K.FarObject.enc g.V.FarObject.enc g.K.FarObject.dec g.V.FarObject.dec z) r)

pub returns-in-Some-clause-only : goal.returns-in-Some-clause-only
returns-in-Some-clause-only g c = λ es is m.
    let r : take (length c.as_slice.result.now - c.args.start) (drop c.args.start c.as_slice.result.now) ≡ drop c.args.start c.args.bytes.items = take_rest c.as_slice.result.now c.args.start ∙ ap (λ z. drop c.args.start z) c.as_slice.ensures.value in
    let n = never _ _ _ _ _ _ g.K.FarObject.laws g.V.FarObject.laws (drop c.args.start c.args.bytes.items) es (Some c.in-Some.fault) is m (c.in-Some.ensures.first ∙ ap (λ z. fault_of g.K.FarObject.enc g.V.FarObject.enc g.K.FarObject.dec g.V.FarObject.dec z) r) in
    cc
