use Rattle.std.proofs.Common.{subst, ◌∙◌}
use mathlib.Core.List.{IsPrefix}
use Rattle.hash_table.proofs.Meeting.{met}
use Rattle.hash_table.proofs.table.FarTable.enter_frame.Goals as goal

pub returns-clause-object : goal.returns-clause-object
returns-clause-object g c =
    let own = c.mark.ensures.own in
    let e = c.learn.ensures in
    let s = c.in_ok-scope.scope in
    met g.K.FarObject.enc g.V.FarObject.enc g.J.Naming.limits c.args.pass.now.front s.mark c.learn.new.self c.args.b s.bucket s.name c.args.old s.object c.contents_stay.ensures c.seen_stay.ensures e.lawful
    (subst (λ log. IsPrefix log c.learn.new.self) c.mark-both.ensures.front e.own) (subst (λ log. IsPrefix log c.learn.new.self) c.mark.ensures.mark e.told) c.requires.seen own.drawn own.same (c.in_ok-scope.ensures.name ∙ c.name_of.ensures.name)
