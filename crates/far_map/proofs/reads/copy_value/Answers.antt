use Rattle.far_object.specs.Encodings.{enc_text}
use Rattle.far_object.specs.Buckets.{bucket}
use Rattle.table_core.specs.declared.operation.Operation.TheVariants.{Get}
use Rattle.std.proofs.Common.{sym, subst}
use Rattle.far_map.specs.declared.refusal.MapRefusal.{MapRefusal}
use Rattle.far_map.specs.Answers.{IsRefused}
use Rattle.far_map.specs.Refusals.{IsUnread}
use Rattle.far_map.proofs.Trying.{done_now, get_made, get_refused, unread}
use Rattle.far_map.proofs.reads.copy_value.Goals as goal

pub returns-in-Ok-clause-answers : goal.returns-in-Ok-clause-answers
returns-in-Ok-clause-answers g c =
    done_now g.V.FarObject.enc g.J.Naming.limits c.args.table.now.limit c.args.caller.now.pass c.get.new.caller.pass (Get c.args.key.now) c.in-Ok.found
    (get_made g.V.FarObject.enc g.J.Naming.limits c.args.table.now.limit c.args.caller.now.pass c.get.new.caller.pass c.args.key.now c.in-Ok.found c.in-Ok.ensures.finished)

pub returns-in-Err-clause-answers : goal.returns-in-Err-clause-answers
returns-in-Err-clause-answers g c =
    let l = g.J.Naming.limits in
    let k = c.args.key.now in
    subst (λ (w : MapRefusal). IsRefused g.V.FarObject.enc l c.args.table.now.limit c.args.caller.now.pass c.get.new.caller.pass (Get k) w) (sym c.said.ensures)
    (get_refused g.V.FarObject.enc l c.args.table.now.limit (bucket enc_text l.buckets k) c.args.caller.now.pass c.get.new.caller.pass (Get k) c.in-Err.refusal c.in-Err.ensures.goes c.in-Err.ensures.refused c.in-Err.ensures.only)

pub returns-in-Err-clause-unread : goal.returns-in-Err-clause-unread
returns-in-Err-clause-unread g c =
    let l = g.J.Naming.limits in
    subst (λ (w : MapRefusal). IsUnread l.honest w) (sym c.said.ensures)
    (unread g.V.FarObject.enc l c.args.table.now.limit (bucket enc_text l.buckets c.args.key.now) c.args.caller.now.pass c.get.new.caller.pass c.in-Err.refusal c.in-Err.ensures.refused c.in-Err.ensures.only)
