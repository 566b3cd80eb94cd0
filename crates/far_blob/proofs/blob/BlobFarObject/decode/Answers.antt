use Rattle.std.proofs.Common.{◌≤◌, ap, sym, subst, arith, length}
use Rattle.std.proofs.lemmas.List.{length-take-le}
use Rattle.far_object.specs.Encodings.{AreBytes}
use Rattle.far_object.specs.EncodingLaws.{bytes_take, bytes_drop}
use Rattle.far_blob.proofs.blob.BlobFarObject.decode.Goals as goal

pub invariant_of-result : goal.invariant_of-result
invariant_of-result c =
    let all : AreBytes c.args.bytes.now = λ i. omega (arith, c.type_inv.bytes i) in
    let rest : AreBytes c.in-Some.rest.now = subst AreBytes (sym c.in-Some.ensures.cases.1) (bytes_drop 4 c.args.bytes.now all) in
    let count = c.from_be_bytes-count.result in
    let long = length-take-le count c.in-Some.rest.now c.if-rest-count.false in (
      omega (arith, ap length c.in-Ok.ensures.items, long, c.if-count-gt-MOST_BYTES.false),
      subst AreBytes (sym c.in-Ok.ensures.items) (bytes_take count c.in-Some.rest.now rest),
    )
