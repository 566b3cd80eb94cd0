use Rattle.std.proofs.Common.{List, [], refl, ap}
use Rattle.far_pairs.specs.Bundles.{all_of}
use Rattle.far_pairs.proofs.Merging.{Pairs, cut_none, cut_more, cut_all}
use Rattle.far_pairs.proofs.ranges.cut_all.Goals as goal

pub loop-run-init : goal.loop-run-init
loop-run-init c = cut_none c.args.key.now [] (all_of c.new-low.result.items) (all_of c.new-high.result.items) refl (ap (λ (z : List Pairs). all_of z) c.new-low.ensures.items) (ap (λ (z : List Pairs). all_of z) c.new-high.ensures.items)

pub loop-run-preserved : goal.loop-run-preserved
loop-run-preserved c =
    cut_more c.args.key.now c.args.runs.now c.loop-run.low.items c.loop-run.high.items c.push.new.self.items c.push-in-loop-run.new.self.items c.loop-run.run-index c.run-item.result _ _ c.loop-run-test.true c.run-item.is c.loop-run.invariant c.cut-before.ensures c.in_ok-push.ensures.items c.in_ok-push-2.ensures.items

pub returns : goal.returns
returns c = cut_all c.args.key.now c.args.runs.now (all_of c.loop-run.low.items) (all_of c.loop-run.high.items) c.loop-run.run-index c.loop-run-test.false c.loop-run.invariant
