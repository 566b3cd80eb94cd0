use Rattle.far_object.proofs.Values.{value_found}
use Rattle.far_object.proofs.object.Object.value_at.Goals as goal

pub returns-in-Ok : goal.returns-in-Ok
returns-in-Ok g c =
    value_found g.K.FarObject.enc g.V.FarObject.enc g.V.FarObject.dec g.K.FarObject.admits g.V.FarObject.admits g.V.FarObject.laws c.args.key.now c.args.self.now c.in-Some.place c.as_bytes-bytes.result.now c.in-Ok.value
    c.as_bytes-bytes.ensures.map c.in-Some.ensures.value c.as_bytes-bytes.ensures.is c.in-Ok.ensures.value
