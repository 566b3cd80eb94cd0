use Rattle.std.proofs.Common.{drop}
use Rattle.far_object.proofs.Reading.{is_read, is_object}
use Rattle.far_object.proofs.object.Object.behind.Goals as goal

pub invariant_of-result : goal.invariant_of-result
invariant_of-result g c = (
  c.requires.within,
  is_object _ _ _ _ _ _ g.K.FarObject.laws g.V.FarObject.laws (drop c.args.start c.args.bytes.items) c.requires.object.0 c.requires.object.1 c.requires.object.2,
)

pub returns : goal.returns
returns g c = λ es is m. is_read _ _ _ _ _ _ g.K.FarObject.laws g.V.FarObject.laws (drop c.args.start c.args.bytes.items) es is m
