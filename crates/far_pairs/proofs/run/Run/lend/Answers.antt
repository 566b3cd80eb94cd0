use Rattle.std.proofs.Common.{◌∙◌, ◌++◌, ◌≤◌, length, ap, subst, take_all}
use Rattle.far_pairs.proofs.Merging.{Pairs}
use Rattle.far_pairs.proofs.run.Run.lend.Goals as goal

pub returns : goal.returns
returns c = c.loop-pair.invariant ∙ ap (λ (z : Pairs). c.args.lent.now.items ++ z) (take_all c.loop-pair.pair-index c.args.self.now (subst (λ (z : Pairs). length z ≤ c.loop-pair.pair-index) c.self.view_is c.loop-pair-test.false))
