use Rattle.version_words.specs.Views.{operation_of, probed}
use Rattle.std.proofs.Common.{◌≡◌, ◌∙◌, List, length, Option, Some, inl, inr, arith, ap, subst}
use Rattle.table_core.specs.Lent.{lent}
use Rattle.hash_table.specs.Changes.{MayMake}
use Rattle.hash_table.proofs.Fronts.{installed_finished, left_finished}
use Rattle.hash_table.proofs.Steps.{installed_left, installed_now}
use Rattle.hash_table.proofs.table.FarTable.settle.Goals as goal

pub returns-in-Ok-clause-finished : goal.returns-in-Ok-clause-finished
returns-in-Ok-clause-finished g c =
    let e = c.in-Ok.ensures in
    left_finished g.K.FarObject.enc g.V.FarObject.enc g.J.Naming.limits c.args.b c.args.old (lent c.args.operation.now) (probed c.probe_of.result) c.args.built.answer c.probe_of.ensures c.seen_answers.ensures e.pass e.lawful c.requires.bucket.1 c.requires.seen e.follows c.requires.answer

pub returns-in-Ok-publish_empty-clause-finished : goal.returns-in-Ok-publish_empty-clause-finished
returns-in-Ok-publish_empty-clause-finished g c =
    let e = c.in-Ok-publish_empty.ensures in
    let f = e.follows in
    installed_finished g.K.FarObject.enc g.V.FarObject.enc g.J.Naming.limits c.args.b c.args.old f.0 (lent c.args.operation.now) (operation_of c.change_of-change.result) c.args.built.answer c.change_of-change.ensures c.seen_answers.ensures e.made e.lawful c.requires.bucket.1 c.requires.seen f.2 c.requires.answer

pub returns-in-Ok-publish_local-clause-finished : goal.returns-in-Ok-publish_local-clause-finished
returns-in-Ok-publish_local-clause-finished g c =
    let e = c.in-Ok-publish_local.ensures in
    let f = e.follows in
    installed_finished g.K.FarObject.enc g.V.FarObject.enc g.J.Naming.limits c.args.b c.args.old f.0 (lent c.args.operation.now) (operation_of c.change_of-change.result) c.args.built.answer c.change_of-change.ensures c.seen_answers.ensures e.made e.lawful c.requires.bucket.1 c.requires.seen f.2 c.requires.answer

pub returns-in-Ok-clause-installed : goal.returns-in-Ok-clause-installed
returns-in-Ok-clause-installed g c =
    let e = c.in-Ok.ensures in
    installed_left g.K.FarObject.enc g.V.FarObject.enc g.J.Naming.limits c.args.self.now.limit c.args.self.now.frames c.args.b c.args.old (lent c.args.operation.now) (probed c.probe_of.result) c.args.built.object _ _ c.probe_of.ensures
    c.requires.seen c.requires.object c.requires.fits e.follows e.lawful c.count.ensures

pub returns-in-Ok-publish_empty-clause-installed : goal.returns-in-Ok-publish_empty-clause-installed
returns-in-Ok-publish_empty-clause-installed g c =
    let e = c.in-Ok-publish_empty.ensures in
    let f = e.follows in
    let some : MayMake (lent c.args.operation.now) (Some c.in-Some.object) = subst (λ (x : Option (List _)). MayMake (lent c.args.operation.now) x) c.in-Some.is c.requires.may in
    installed_now g.K.FarObject.enc g.V.FarObject.enc g.J.Naming.limits c.args.self.now.limit c.args.self.now.frames c.args.b c.args.old f.0 (lent c.args.operation.now) (operation_of c.change_of-change.result) c.args.built.object c.in-Some.object _ _ c.change_of-change.ensures c.in-Some.is
    c.requires.seen c.requires.object c.requires.fits f.2 e.lawful (inl (f.1, λ sets. let pairs = some.1 sets in omega (arith, c.count.ensures, c.if-count-eq0.true, pairs))) (λ none. f.1) (c.count-in-Ok-publish_empty.ensures ∙ rw c.count.ensures at e.left)

pub returns-in-Ok-publish_local-clause-installed : goal.returns-in-Ok-publish_local-clause-installed
returns-in-Ok-publish_local-clause-installed g c =
    let e = c.in-Ok-publish_local.ensures in
    let f = e.follows in
    installed_now g.K.FarObject.enc g.V.FarObject.enc g.J.Naming.limits c.args.self.now.limit c.args.self.now.frames c.args.b c.args.old f.0 (lent c.args.operation.now) (operation_of c.change_of-change.result) c.args.built.object c.in-Some.object _ _ c.change_of-change.ensures c.in-Some.is
    c.requires.seen c.requires.object c.requires.fits f.2 e.lawful (inr f.1) (λ none. let count : length c.in-Some.object ≡ 0 = ap length none in omega (arith, c.count.ensures, c.if-count-eq0.false, count)) (c.count-in-Ok-publish_local.ensures ∙ rw c.count.ensures at e.left)

pub change_of-change-requires : goal.change_of-change-requires
change_of-change-requires g c = let some : MayMake (lent c.args.operation.now) (Some c.in-Some.object) = subst (λ (x : Option (List _)). MayMake (lent c.args.operation.now) x) c.in-Some.is c.requires.may in some.0
