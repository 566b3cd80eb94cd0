use Rattle.std.proofs.Common.{[]}
use Rattle.far_object.proofs.Putting.{empty_map}
use Rattle.far_object.proofs.object.Object.empty.Goals as goal

pub behind-requires-clause-object : goal.behind-requires-clause-object
behind-requires-clause-object g c = ([], c.in_ok-bytes.ensures.items, empty_map g.K.FarObject.enc g.K.FarObject.admits g.V.FarObject.admits)

pub returns : goal.returns
returns g c = c.behind.ensures [] c.in_ok-bytes.ensures.items (empty_map g.K.FarObject.enc g.K.FarObject.admits g.V.FarObject.admits)
