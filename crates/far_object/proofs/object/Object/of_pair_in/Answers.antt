use Rattle.std.proofs.Common.{[], ◌∷◌, refl, arith}
use Rattle.far_object.proofs.Putting.{with_gap, put_map, empty_map}
use Rattle.far_object.proofs.object.Object.of_pair_in.Goals as goal

pub behind-requires-clause-object : goal.behind-requires-clause-object
behind-requires-clause-object g c = (
  (c.args.key.now, c.args.value.now) ∷ [],
  with_gap g.K.FarObject.enc g.V.FarObject.enc c.args.key.now c.args.value.now 4 0 [] (0 ∷ 0 ∷ 0 ∷ 0 ∷ []) c.in_ok-bytes.bytes.items refl refl refl c.in_ok-bytes.ensures,
  put_map g.K.FarObject.enc g.K.FarObject.admits g.V.FarObject.admits c.args.key.now c.args.value.now [] c.admitted.ensures c.admitted-2.ensures (omega arith) (empty_map g.K.FarObject.enc g.K.FarObject.admits g.V.FarObject.admits),
)

pub returns : goal.returns
returns g c =
    c.behind.ensures ((c.args.key.now, c.args.value.now) ∷ [])
    (with_gap g.K.FarObject.enc g.V.FarObject.enc c.args.key.now c.args.value.now 4 0 [] (0 ∷ 0 ∷ 0 ∷ 0 ∷ []) c.in_ok-bytes.bytes.items refl refl refl c.in_ok-bytes.ensures)
    (put_map g.K.FarObject.enc g.K.FarObject.admits g.V.FarObject.admits c.args.key.now c.args.value.now [] c.admitted.ensures c.admitted-2.ensures (omega arith) (empty_map g.K.FarObject.enc g.K.FarObject.admits g.V.FarObject.admits))
