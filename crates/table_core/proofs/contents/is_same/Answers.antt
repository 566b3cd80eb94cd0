use Rattle.table_core.proofs.Comparing.{same_is}
use Rattle.table_core.proofs.contents.is_same.Goals as goal

pub returns : goal.returns
returns g c =
    same_is _ _ _ g.T.FarObject.laws c.args.one.now c.args.other.now c.admitted.ensures c.admitted-2.ensures c.compare.result c.is_eq.result c.compare.ensures c.is_eq.ensures
