use Rattle.std.proofs.Common.{rules, Bor}
use Rattle.std.specs.Ordering.{is_lt}
use Rattle.std.proofs.lemmas.List.Sorted.{ranks_by, answers_always}
use Rattle.far_object.specs.Buckets.{key_cmp}
use Rattle.table_core.specs.Changes.{standing_at}
use Rattle.table_core.specs.Logs.{history}
use Rattle.table_core.specs.Machines.{buckets_of}
use Rattle.table_core.specs.Maps.{map_of}
use Rattle.table_core.proofs.Gathering.{gathered_is}
use Rattle.table_core.proofs.Keys.{rising}
use Rattle.far_object.proofs.Rising.{total}
use Rattle.table_core.proofs.Standing.{gathers_there}
use Rattle.table_core.proofs.machine.Machine.pairs.Goals as goal

pub returns : goal.returns
returns g c = λ log s.
    let ek = g.K.FarObject.enc in
    let ev = g.V.FarObject.enc in
    gathered_is ek (λ b. standing_at c.args.self.now b) (buckets_of c.args.self.now) (map_of ek ev (history log)) c.in_ok-pairs.pairs.items c.sort_unstable_by.new.self.items c.in_ok-pairs.ensures.some
    (gathers_there ek ev c.args.self.now log s) (rising ek ev (history log)) c.in_ok-pairs.ensures.pairs c.sort_unstable_by.ensures.permutation
    (c.sort_unstable_by.ensures.sorted (λ x y. is_lt (key_cmp ek x.now.0 y.now.0)) (ranks_by (total ek) (λ (r : Bor (g.row.K.Denot × g.row.V.Denot)). r.now.0)) (answers_always _ _ _ (λ f a r f2 k. search rules)))
