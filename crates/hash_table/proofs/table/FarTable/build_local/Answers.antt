use Rattle.std.proofs.Common.{◌∙◌, ap, sym, subst, []}
use Rattle.table_core.specs.Maps.{reply}
use Rattle.table_core.specs.Lent.{lent}
use Rattle.hash_table.specs.Changes.{Leaves}
use Rattle.hash_table.proofs.Refused.{unmade_unbuilt}
use Rattle.hash_table.proofs.table.FarTable.build_local.Goals as goal

pub returns-in-Ok-clause-answer : goal.returns-in-Ok-clause-answer
returns-in-Ok-clause-answer g c = λ honest.
    let none = c.empty_holds.ensures g.J.Naming.limits c.args.pass.now.front c.args.b c.args.old honest c.requires.lawful c.requires.seen c.in-Nothing.ensures in
    c.in-Ok.ensures.answer ∙ ap (λ es. reply g.K.FarObject.enc es (lent c.args.operation.now)) (sym none)

pub returns-in-Ok-clause-object : goal.returns-in-Ok-clause-object
returns-in-Ok-clause-object g c = λ honest.
    let none = c.empty_holds.ensures g.J.Naming.limits c.args.pass.now.front c.args.b c.args.old honest c.requires.lawful c.requires.seen c.in-Nothing.ensures in
    subst (λ es. Leaves g.K.FarObject.enc g.V.FarObject.enc es (lent c.args.operation.now) c.in-Ok.built.object) (sym none) c.in-Ok.ensures.object

pub returns-in-Err-clause-why : goal.returns-in-Err-clause-why
returns-in-Err-clause-why g c =
    unmade_unbuilt g.K.FarObject.enc g.V.FarObject.enc g.J.Naming.limits.honest c.args.self.now.limit c.args.old [] _ (lent c.args.operation.now) c.in-Err.refusal
    (λ honest. let none = c.empty_holds.ensures g.J.Naming.limits c.args.pass.now.front c.args.b c.args.old honest c.requires.lawful c.requires.seen c.in-Nothing.ensures in sym none) c.in-Err.ensures.why
