use Rattle.std.proofs.Common.{◌∙◌, take_all}
use Rattle.far_pairs.proofs.order.runs_of.Goals as goal

pub returns : goal.returns
returns c = c.loop-list.invariant ∙ take_all c.loop-list.list-index c.args.lists.now c.loop-list-test.false
