use Rattle.far_pairs.proofs.Merging.{ordered_more}
use Rattle.far_pairs.proofs.order.AllOrderedFromParallelIteratorRefBundle.with_item.Goals as goal

pub returns-in-Ok : goal.returns-in-Ok
returns-in-Ok g c = λ xs old. ordered_more g.K.FarObject.enc g.V.FarObject.enc xs c.args.item c.args.self.lists.items c.push.new.self.items c.in-Ok.ordered old c.in-Ok.ensures c.in_ok-push-in-Ok.ensures.items
