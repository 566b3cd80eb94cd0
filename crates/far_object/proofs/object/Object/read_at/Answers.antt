use Rattle.std.proofs.Common.{◌≡◌, ap, sym, ◌∙◌}
use Rattle.std.proofs.lemmas.Result.{IfOk-weaker, IfErr-weaker}
use Rattle.std.specs.Prelude.{Ok, Err}
use Rattle.far_object.specs.Faults.{fault_behind_start}
use Rattle.far_object.specs.Formats.{start_of}
use Rattle.far_object.proofs.Placing.{spelled, object_behind, never_misplaced}
use Rattle.far_object.proofs.object.Object.read_at.Goals as goal

pub returns-in-Ok-clause-spelled : goal.returns-in-Ok-clause-spelled
returns-in-Ok-clause-spelled g c =
    let e : Ok c.in-Ok.start ≡ start_of c.args.bucket c.args.name c.args.bytes.items = c.in-Ok.ensures ∙ ap (λ z. start_of c.args.bucket c.args.name z) c.as_slice.ensures.value in
    IfOk-weaker c.read_behind.result _ _ (λ o h. spelled g.K.FarObject.enc g.V.FarObject.enc g.K.FarObject.admits g.V.FarObject.admits c.args.bucket c.args.name c.args.bytes.items c.in-Ok.start o e h) c.read_behind.ensures.spelled

pub returns-in-Ok-clause-only : goal.returns-in-Ok-clause-only
returns-in-Ok-clause-only g c = λ f es b m.
    let e : Ok c.in-Ok.start ≡ start_of c.args.bucket c.args.name c.args.bytes.items = c.in-Ok.ensures ∙ ap (λ z. start_of c.args.bucket c.args.name z) c.as_slice.ensures.value in
    c.read_behind.ensures.only es (object_behind g.K.FarObject.enc g.V.FarObject.enc g.K.FarObject.admits g.V.FarObject.admits c.args.bucket c.args.name c.args.bytes.items c.in-Ok.start f es e b m) m

pub returns-in-Ok-clause-first : goal.returns-in-Ok-clause-first
returns-in-Ok-clause-first g c =
    let e : Ok c.in-Ok.start ≡ start_of c.args.bucket c.args.name c.args.bytes.items = c.in-Ok.ensures ∙ ap (λ z. start_of c.args.bucket c.args.name z) c.as_slice.ensures.value in
    IfErr-weaker c.read_behind.result _ _ (λ p h. ap (λ r. fault_behind_start g.K.FarObject.enc g.V.FarObject.enc g.K.FarObject.dec g.V.FarObject.dec c.args.bytes.items r) (sym e) ∙ h) c.read_behind.ensures.first

pub returns-in-Err-clause-only : goal.returns-in-Err-clause-only
returns-in-Err-clause-only g c = λ f es b m.
    let e : Err c.in-Err.fault ≡ start_of c.args.bucket c.args.name c.args.bytes.items = c.in-Err.ensures ∙ ap (λ z. start_of c.args.bucket c.args.name z) c.as_slice.ensures.value in
    never_misplaced g.K.FarObject.enc g.V.FarObject.enc g.K.FarObject.admits g.V.FarObject.admits c.args.bucket c.args.name c.args.bytes.items c.in-Err.fault f es e b m
