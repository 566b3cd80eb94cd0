use Rattle.std.proofs.Common.{◌∙◌, ◌++◌, ap, sym, subst, refl, IsTrue}
use mathlib.Core.List.{IsPrefix}
use Rattle.far_object.specs.Formats.{spelling}
use Rattle.table_core.specs.Logs.{contents}
use Rattle.hash_table.proofs.Meeting.{met}
use Rattle.hash_table.proofs.table.FarTable.read_device.Goals as goal

pub returns-in-Ok-clause-object : goal.returns-in-Ok-clause-object
returns-in-Ok-clause-object g c = λ honest.
    let n = c.in-Ok-Some.receipt in
    let r = rw c.in-Ok-Some.field-0-is at c.in-Ok-Some.ensures.found in
    let s = r.honest (subst IsTrue c.args.self.now.honest honest) in
    let own = c.mark.ensures.own in
    let e = c.learn.ensures in
    let spelled = spelling g.K.FarObject.enc g.V.FarObject.enc s.2.format in
    let es = contents n.front n.number in
    let at = ap (λ b. spelled b n.number es) (sym c.bucket.ensures) ∙ ap (λ k. spelled c.bucket.result k es) (sym c.number.ensures) in
    let one = c.in-Ok.ensures.only s.2.format es (s.1 ∙ (ap (λ bytes. bytes ++ s.0) c.new-bytes.ensures.items ∙ (s.2.is ∙ at))) s.2.map in
    one ∙ met g.K.FarObject.enc g.V.FarObject.enc g.J.Naming.limits c.args.pass.now.front n.front c.learn.new.self c.args.b n.bucket n.number c.args.old es c.contents_stay.ensures c.seen_stay.ensures e.lawful
    (subst (λ log. IsPrefix log c.learn.new.self) c.mark-both.ensures.front e.own) (subst (λ log. IsPrefix log c.learn.new.self) c.mark.ensures.front e.told) c.requires.seen own.drawn refl (r.number ∙ c.name_of.ensures.name)
