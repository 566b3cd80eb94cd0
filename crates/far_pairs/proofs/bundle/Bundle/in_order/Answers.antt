use Rattle.std.proofs.Common.{rules, ℕ, List, ◌++◌, ◌∙◌, ap}
use Rattle.std.proofs.lemmas.List.Sorted.{ranks_by, answers_always}
use Rattle.std.proofs.lemmas.Cmp.{nat_list_cmp_total}
use Rattle.far_pairs.specs.Ranges.{key_before}
use Rattle.far_pairs.proofs.Ordering.{spelled_more, again}
use Rattle.far_pairs.proofs.bundle.Bundle.in_order.Goals as goal

pub loop-pair-preserved : goal.loop-pair-preserved
loop-pair-preserved g c =
    spelled_more c.deref-pair-items.result.now c.loop-pair.pair-index c.pair-item.result c.pair-item.result c.loop-pair.bytes.items c.extend_from_slice.new.self.items c.extend_from_slice-in-loop-pair.new.self.items c.loop-pair-test.true c.loop-pair.invariant c.pair-item.is
    (c.in_ok-extend_from_slice.ensures.items ∙ ap (λ z. c.loop-pair.bytes.items ++ z) c.key.ensures)
    (c.in_ok-extend_from_slice-2.ensures.items ∙ ap (λ z. c.extend_from_slice.new.self.items ++ z) c.value.ensures)

pub invariant_of-result : goal.invariant_of-result
invariant_of-result g c =
    let wrote = again g.K.FarObject.enc g.V.FarObject.enc _ _ _ _ g.K.FarObject.laws g.V.FarObject.laws c.args.self.now c.self.inside.count c.self.inside.bytes.items c.new-lent.result.items c.lend.new.lent.items c.sort_unstable_by.new.self.items c.deref-pair-items.result.now c.loop-pair.bytes.items c.loop-pair.pair-index
    c.self.invariant c.self.view_is c.new-lent.ensures.items c.in_ok-lend.ensures c.sort_unstable_by.ensures.permutation c.deref-pair-items.ensures.value c.loop-pair-test.false c.loop-pair.invariant in
    wrote.bundle

pub returns-clause-same : goal.returns-clause-same
returns-clause-same g c =
    let wrote = again g.K.FarObject.enc g.V.FarObject.enc _ _ _ _ g.K.FarObject.laws g.V.FarObject.laws c.args.self.now c.self.inside.count c.self.inside.bytes.items c.new-lent.result.items c.lend.new.lent.items c.sort_unstable_by.new.self.items c.deref-pair-items.result.now c.loop-pair.bytes.items c.loop-pair.pair-index
    c.self.invariant c.self.view_is c.new-lent.ensures.items c.in_ok-lend.ensures c.sort_unstable_by.ensures.permutation c.deref-pair-items.ensures.value c.loop-pair-test.false c.loop-pair.invariant in
    wrote.same

pub returns-clause-rising : goal.returns-clause-rising
returns-clause-rising g c =
    let wrote = again g.K.FarObject.enc g.V.FarObject.enc _ _ _ _ g.K.FarObject.laws g.V.FarObject.laws c.args.self.now c.self.inside.count c.self.inside.bytes.items c.new-lent.result.items c.lend.new.lent.items c.sort_unstable_by.new.self.items c.deref-pair-items.result.now c.loop-pair.bytes.items c.loop-pair.pair-index
    c.self.invariant c.self.view_is c.new-lent.ensures.items c.in_ok-lend.ensures c.sort_unstable_by.ensures.permutation c.deref-pair-items.ensures.value c.loop-pair-test.false c.loop-pair.invariant in
    wrote.rising (c.sort_unstable_by.ensures.sorted key_before (ranks_by nat_list_cmp_total (λ (x : List ℕ × List ℕ). x.0)) (answers_always _ _ _ (λ f a r f2 k. search rules)))
