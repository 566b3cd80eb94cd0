use Rattle.std.proofs.Common.{rules, List, ℕ}
use Rattle.std.proofs.lemmas.List.Sorted.{ranks_by, answers_always}
use Rattle.std.proofs.lemmas.Cmp.{nat_list_cmp_total}
use Rattle.far_pairs.specs.Ranges.{key_before}
use Rattle.far_pairs.proofs.order.Ordered.of.Goals as goal

pub invariant_of-result : goal.invariant_of-result
invariant_of-result g c = c.in_ok-sort_by.ensures.sorted key_before (ranks_by nat_list_cmp_total (λ (x : List ℕ × List ℕ). x.0)) (answers_always _ _ _ (λ f a r f2 k. search rules))
