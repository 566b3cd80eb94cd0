use Rattle.std.proofs.Common.{rules}
use Rattle.far_map.proofs.Removals.{alike}
use Rattle.far_map.proofs.update.is_value.Goals as goal

pub returns : goal.returns
returns g c = alike g.V.FarObject.enc g.V.FarObject.admits c.equal_encodings_are_equal_values.ensures c.args.one.now c.args.other.now c.is_eq.result c.admitted.ensures c.admitted-2.ensures (search rules)
