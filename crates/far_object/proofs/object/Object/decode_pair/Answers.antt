use Rattle.far_object.proofs.Entries.{decoded_both}
use Rattle.far_object.proofs.object.Object.decode_pair.Goals as goal

pub returns-in-Ok-decode-clause-pair : goal.returns-in-Ok-decode-clause-pair
returns-in-Ok-decode-clause-pair g c = λ e h.
    let x = c.in-Ok.ensures in
    let y = c.in-Ok-decode.ensures in
    let b = decoded_both _ _ _ _ _ _ g.K.FarObject.laws g.V.FarObject.laws c.args.bytes.now e c.in-Ok.key c.in-Ok.own c.in-Ok-decode.value c.in-Ok-decode.size h x.value x.size y.value y.size in
    (b.0, b.1)

pub returns-in-Ok-decode-clause-within : goal.returns-in-Ok-decode-clause-within
returns-in-Ok-decode-clause-within g c =
    let x = c.in-Ok.ensures in
    let y = c.in-Ok-decode.ensures in
    let b = decoded_both _ _ _ _ _ _ g.K.FarObject.laws g.V.FarObject.laws c.args.bytes.now c.requires.0 c.in-Ok.key c.in-Ok.own c.in-Ok-decode.value c.in-Ok-decode.size c.requires.1 x.value x.size y.value y.size in
    b.3
