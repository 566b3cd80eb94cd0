use Rattle.std.proofs.Common.{◌≡◌, subst}
use Rattle.std.specs.Prelude.{IfSome}
use Rattle.table_core.specs.declared.operation.Operation.TheVariants.{Get}
use Rattle.hash_table.proofs.Fronts.{one_more_begins}
use Rattle.hash_table.proofs.Rounds.{kept_stays, round_from}
use Rattle.hash_table.proofs.table.FarTable.bring_in.Goals as goal

pub returns-in-Err-default-None-clause-limbo : goal.returns-in-Err-default-None-clause-limbo
returns-in-Err-default-None-clause-limbo g c = one_more_begins c.args.caller.now.limbo c.publish_local.new.limbo c.publish_local.ensures.limbo

pub answer_from-requires-clause-object : goal.answer_from-requires-clause-object
answer_from-requires-clause-object g c =
    let e = c.in-Err-default-Some.ensures in
    let same : c.in-Err-default-Some.object ≡ c.args.object = subst (λ o. IfSome o (λ x. x ≡ c.args.object)) c.in-Err-default-Some.field-0-1-is e.kept in
    kept_stays g.K.FarObject.enc g.V.FarObject.enc g.J.Naming.limits c.args.caller.now.pass.front c.publish_local.new.pass.front c.args.b c.args.old c.args.object c.in-Err-default-Some.object c.seen_stay.ensures e.lawful e.goes.grows c.requires.seen same c.requires.object

pub returns-in-Ok-answer_from-clause-limbo : goal.returns-in-Ok-answer_from-clause-limbo
returns-in-Ok-answer_from-clause-limbo g c = one_more_begins c.args.caller.now.limbo c.publish_local.new.limbo c.publish_local.ensures.limbo

pub returns-in-Ok-answer_from-clause-round : goal.returns-in-Ok-answer_from-clause-round
returns-in-Ok-answer_from-clause-round g c = round_from g.K.FarObject.enc g.V.FarObject.enc g.J.Naming.limits c.args.caller.now.pass c.publish_local.new.pass c.answer_from.new.pass (Get c.args.key.now) c.in-Ok-answer_from.round c.in-Err-default-Some.ensures.goes c.in-Ok-answer_from.ensures.round

pub returns-clause-limbo : goal.returns-clause-limbo
returns-clause-limbo g c = one_more_begins c.args.caller.now.limbo c.publish_local.new.limbo c.publish_local.ensures.limbo
