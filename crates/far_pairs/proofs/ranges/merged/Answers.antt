use Rattle.std.proofs.Common.{rules, List, ℕ}
use Rattle.std.proofs.lemmas.List.Sorted.{ranks_by, answers_always}
use Rattle.std.proofs.lemmas.Cmp.{nat_list_cmp_total}
use Rattle.far_pairs.specs.Ranges.{key_before}
use Rattle.far_pairs.proofs.Merging.{lent_run, merged_all}
use Rattle.far_pairs.proofs.ranges.merged.Goals as goal

pub loop-run-preserved : goal.loop-run-preserved
loop-run-preserved c = lent_run c.args.runs.now c.loop-run.run-index c.run-item.result c.loop-run.pairs.items c.lend.new.lent.items c.loop-run-test.true c.run-item.is c.loop-run.invariant c.in_ok-lend.ensures

pub returns : goal.returns
returns c =
    merged_all c.args.runs.now c.loop-run.run-index c.loop-run.pairs.items c.sort_by.new.self.items c.loop-run-test.false c.loop-run.invariant c.in_ok-sort_by.ensures.permutation
    (c.in_ok-sort_by.ensures.sorted key_before (ranks_by nat_list_cmp_total (λ (x : List ℕ × List ℕ). x.0)) (answers_always _ _ _ (λ f a r f2 k. search rules)))
