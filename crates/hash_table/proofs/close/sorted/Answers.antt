use Rattle.std.proofs.Common.{rules}
use Rattle.std.specs.Ordering.{is_lt}
use Rattle.std.proofs.lemmas.List.Sorted.{ranks_by, answers_always}
use Rattle.far_object.specs.Buckets.{key_cmp}
use Rattle.far_object.proofs.Rising.{total}
use Rattle.hash_table.proofs.close.sorted.Goals as goal

pub returns-clause-rising : goal.returns-clause-rising
returns-clause-rising g c =
    let ek = g.K.FarObject.enc in
    c.sort_unstable_by.ensures.sorted (λ x y. is_lt (key_cmp ek x.0 y.0)) (ranks_by (total ek) (λ (x : g.row.K.Denot × g.row.V.Denot). x.0)) (answers_always _ _ _ (λ f a r f2 k. search rules))
