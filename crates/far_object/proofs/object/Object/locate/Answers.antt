use Rattle.far_object.proofs.Walks.{walk_next, met_less, met_equal, met_greater}
use Rattle.far_object.proofs.object.Object.locate.Goals as goal

pub lengths-own-requires : goal.lengths-own-requires
lengths-own-requires g c =
    let w = walk_next _ _ _ _ _ _ _ _ _ _ c.loop-i.invariant c.loop-i-test.true in
    (w.pair, w.begins)

pub returns-in-Less : goal.returns-in-Less
returns-in-Less g c =
    let w = walk_next _ _ _ _ _ _ _ _ _ _ c.loop-i.invariant c.loop-i-test.true in
    met_less _ _ _ _ _ _ _ _ _ _ w c.lengths-own.result.0 c.lengths-own.result.1 (c.lengths-own.ensures.is w.pair w.begins) c.compare_to_bytes.result c.compare_to_bytes.ensures c.in-Less.is

pub returns-in-Equal : goal.returns-in-Equal
returns-in-Equal g c =
    let w = walk_next _ _ _ _ _ _ _ _ _ _ c.loop-i.invariant c.loop-i-test.true in
    met_equal _ _ _ _ _ _ _ _ _ _ w c.lengths-own.result.0 c.lengths-own.result.1 (c.lengths-own.ensures.is w.pair w.begins) c.compare_to_bytes.result c.compare_to_bytes.ensures c.in-Equal.is

pub loop-i-preserved : goal.loop-i-preserved
loop-i-preserved g c =
    let w = walk_next _ _ _ _ _ _ _ _ _ _ c.loop-i.invariant c.loop-i-test.true in
    met_greater _ _ _ _ _ _ _ _ _ _ w c.lengths-own.result.0 c.lengths-own.result.1 (c.lengths-own.ensures.is w.pair w.begins) c.compare_to_bytes.result c.compare_to_bytes.ensures c.in-Greater.is
