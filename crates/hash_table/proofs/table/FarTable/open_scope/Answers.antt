use Rattle.std.proofs.Common.{◌∙◌, ℕ, None, ap, sym, subst}
use Rattle.far_object.specs.Objects.{IsMap, IsValueAt}
use Rattle.table_core.specs.declared.operation.Operation.TheVariants.{Get}
use Rattle.table_core.specs.BucketWords.{name_of}
use Rattle.table_core.specs.Maps.{value_at}
use Rattle.table_core.specs.Logs.{word}
use Rattle.hash_table.proofs.Fronts.{finished}
use Rattle.hash_table.proofs.Values.{value_shown}
use Rattle.hash_table.proofs.table.FarTable.open_scope.Goals as goal

pub returns-in-Device-clause-refused : goal.returns-in-Device-clause-refused
returns-in-Device-clause-refused g c = rw (← c.bucket-b.ensures.is, ← c.look-old.ensures.word) c.in-Device.ensures.1

pub returns-in-Ok-clause-finished : goal.returns-in-Ok-clause-finished
returns-in-Ok-clause-finished g c =
    let e = c.look-old.ensures in
    let f = c.in-Ok.ensures in
    finished g.K.FarObject.enc g.V.FarObject.enc g.J.Naming.limits c.bucket-b.result c.look-old.result (Get c.args.key.now) None None c.seen_answers.ensures e.pass f.pass f.lawful (sym c.bucket-b.ensures.is) e.seen f.follows
    (λ honest. ap (λ es. value_at g.K.FarObject.enc c.args.key.now es) (sym (c.empty_holds.ensures g.J.Naming.limits c.look-old.new.pass.front c.bucket-b.result c.look-old.result honest e.lawful e.seen c.in-Nothing.ensures)))

pub returns-in-None-clause-finished : goal.returns-in-None-clause-finished
returns-in-None-clause-finished g c =
    let e = c.look-old.ensures in
    let f = c.in-Ok-check.ensures in
    finished g.K.FarObject.enc g.V.FarObject.enc g.J.Naming.limits c.bucket-b.result c.look-old.result (Get c.args.key.now) None None c.seen_answers.ensures e.pass f.pass f.lawful (sym c.bucket-b.ensures.is) e.seen f.follows
    (λ honest. sym c.in-None.ensures.value ∙ ap (λ es. value_at g.K.FarObject.enc c.args.key.now es) (c.object-in-Frame.ensures.object ∙ c.in-Ok-enter_frame.ensures.object))

pub returns-in-Some-clause-finished : goal.returns-in-Some-clause-finished
returns-in-Some-clause-finished g c =
    let ek = g.K.FarObject.enc in
    let ev = g.V.FarObject.enc in
    let e = c.look-old.ensures in
    let f = c.in-Ok-check.ensures in
    let map = subst (λ es. IsMap ek g.K.FarObject.admits g.V.FarObject.admits es) c.object.ensures.object c.as_bytes-bytes.ensures.map in
    let at = subst (λ es. IsValueAt ek ev c.args.key.now es c.in-Some.place) c.object-in-Frame.ensures.object c.in-Some.ensures.value in
    finished ek ev g.J.Naming.limits c.bucket-b.result c.look-old.result (Get c.args.key.now) None _ c.seen_answers.ensures e.pass f.pass f.lawful (sym c.bucket-b.ensures.is) e.seen f.follows
    (λ honest. value_shown ek ev g.V.FarObject.dec g.K.FarObject.admits g.V.FarObject.admits g.V.FarObject.laws c.args.key.now c.in-Ok-enter_frame.scope.object c.in-Some.place map at ∙ ap (λ es. value_at ek c.args.key.now es) c.in-Ok-enter_frame.ensures.object)

pub returns-in-Some-clause-name : goal.returns-in-Some-clause-name
returns-in-Some-clause-name g c =
    let f = c.in-Ok-check.ensures in
    c.in-Ok-enter_frame.ensures.name ∙ (ap name_of (sym f.stands) ∙ ap (λ (k : ℕ). name_of (word g.K.FarObject.enc g.J.Naming.limits.buckets c.check-in-Frame.new.pass.front k)) c.bucket-b.ensures.is)
