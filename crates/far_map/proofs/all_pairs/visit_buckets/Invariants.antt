use Rattle.std.proofs.Common.{◌≡◌}
use Rattle.std.specs.List.{FoldsTo}
use Rattle.version_words.specs.Views.{Goes}
use Rattle.far_map.specs.Views.{Pairs}
use Rattle.far_map.specs.Visits.{AreRead}
use Rattle.far_map.proofs.all_pairs.visit_buckets.Given as goal

abbrev pub invariant-loop-bucket : goal.invariant-loop-bucket
invariant-loop-bucket g l =
    goal.F-IsAlwaysCallable g l.visit
    × Goes l.fn.caller.pass l.caller.pass
    × (l.caller.limbo ≡ l.fn.caller.limbo)
    × (pairs : Pairs g.row.V.Denot) × AreRead g.V.FarObject.enc g.J.Naming.limits l.bucket l.fn.caller.pass l.caller.pass pairs × FoldsTo (λ f pair h. goal.F-step g f pair.0 pair.1 tt h) l.fn.visit pairs l.visit
