use Rattle.std.proofs.Common.{◌≡◌, map}
use Rattle.table_core.specs.Changes.{standing_at}
use Rattle.table_core.specs.Maps.{joined}
use Rattle.table_core.proofs.machine.Machine.gathered.Given as goal

abbrev pub invariant-loop-bucket : goal.invariant-loop-bucket
invariant-loop-bucket g l = map (λ r. r.now) l.pairs.items ≡ joined (λ b. standing_at l.self b) l.bucket
