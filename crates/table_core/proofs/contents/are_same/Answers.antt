use Rattle.std.proofs.Common.{refl}
use Rattle.table_core.proofs.Comparing.{same_more, same_all}
use Rattle.table_core.proofs.contents.are_same.Goals as goal

pub loop-at-init : goal.loop-at-init
loop-at-init g c = refl

pub loop-at-preserved : goal.loop-at-preserved
loop-at-preserved g c =
    same_more c.args.one.now c.args.other.now c.loop-at.at c.index-one-at.result c.index-other-at.result c.index-other-at-else-not-is_same.result c.loop-at-test.true c.if-one-other.false c.index-one-at.is
    (c.is_same.ensures.0 c.if-not-is_same.false) (c.is_same-else-not-is_same.ensures.0 c.if-not-is_same-2.false) c.loop-at.invariant

pub returns : goal.returns
returns g c = (λ t. same_all c.args.one.now c.args.other.now c.loop-at.at c.loop-at-test.false c.if-one-other.false c.loop-at.invariant, λ same. refl)
