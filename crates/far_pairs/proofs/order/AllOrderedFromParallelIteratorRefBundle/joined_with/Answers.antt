use Rattle.far_pairs.proofs.Merging.{ordered_both}
use Rattle.far_pairs.proofs.order.AllOrderedFromParallelIteratorRefBundle.joined_with.Goals as goal

pub returns : goal.returns
returns g c = λ xs ys one other. ordered_both g.K.FarObject.enc g.V.FarObject.enc xs ys c.args.self.lists.items c.args.other.lists.items c.append.new.self.items one other c.in_ok-append.ensures.items
