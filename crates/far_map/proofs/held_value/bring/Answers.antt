use Rattle.far_object.specs.Encodings.{enc_text}
use Rattle.far_object.specs.Buckets.{bucket}
use Rattle.table_core.specs.declared.operation.Operation.TheVariants.{Get}
use Rattle.far_map.proofs.Trying.{fetch_refused}
use Rattle.far_map.proofs.held_value.bring.Goals as goal

pub returns-in-Err-clause-refused : goal.returns-in-Err-clause-refused
returns-in-Err-clause-refused g c =
    fetch_refused g.V.FarObject.enc g.J.Naming.limits c.args.table.now.limit (bucket enc_text g.J.Naming.limits.buckets c.args.key.now) c.args.caller.now.pass c.fetch.new.caller.pass (Get c.args.key.now) c.in-Err.refusal c.fetch.ensures.goes
    c.in-Err.ensures.refused c.in-Err.ensures.only
