use Rattle.std.proofs.Common.{ℕ, List, ◌++◌, ap, sym, ◌∙◌}
use Rattle.table_core.specs.Changes.{standing_at}
use Rattle.table_core.specs.Maps.{joined}
use Rattle.table_core.proofs.Gathering.{joined_more}
use Rattle.table_core.proofs.machine.Machine.gathered.Goals as goal

pub loop-bucket-preserved : goal.loop-bucket-preserved
loop-bucket-preserved g c =
    let part = λ (b : ℕ). standing_at c.args.self.now b in
    c.in_ok-append.ensures
    ∙ (ap (λ (z : List (g.row.K.Denot × g.row.V.Denot)). z ++ c.standing.result.now) c.loop-bucket.invariant
    ∙ (ap (λ (z : List (g.row.K.Denot × g.row.V.Denot)). joined part c.loop-bucket.bucket ++ z) c.standing.ensures ∙ sym (joined_more part c.loop-bucket.bucket)))
