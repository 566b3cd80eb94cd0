use Rattle.std.proofs.Common.{List, ap, ◌∙◌, map, subst}
use Rattle.std.specs.List.Sorted.{IsPermutation}
use Rattle.rayon.specs.Lists.{iter_slice}
use Rattle.rayon.proofs.ListFacts.{IfOk-then}
use Rattle.far_pairs.specs.Bundles.{all_of, written}
use Rattle.far_pairs.proofs.Merging.{in_one_order}
use Rattle.far_pairs.proofs.order.in_key_order.Goals as goal

pub returns : goal.returns
returns g c =
    let ek = g.K.FarObject.enc in
    let ev = g.V.FarObject.enc in
    let lists = c.in_ok-all.all.lists.items in
    let bundles = c.in_ok-all.ensures.1 ∙ (ap iter_slice c.with_min_len.ensures.base ∙ c.par_iter.ensures) in
    let moved = subst (λ (z : List (List (g.row.K.Denot × g.row.V.Denot))). IsPermutation (map (written ek ev) (all_of z)) (all_of lists)) bundles c.in_ok-all.ensures.2 in
    IfOk-then c.in_ranges.result _ _ c.in_ranges.ensures (λ ranges merged.
    in_one_order ek ev (all_of c.args.bundles.now) lists c.in_ok-runs.runs.items (all_of (map (λ l. l.items) ranges.items)) moved (c.in_ok-runs.ensures ∙ c.as_slice.ensures.value) merged)
