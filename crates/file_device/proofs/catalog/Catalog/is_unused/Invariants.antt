use Rattle.std.proofs.Common.{ℕ, ◌<◌}
use Rattle.file_device.specs.Places.{IsFree}
use Rattle.file_device.proofs.catalog.Catalog.is_unused.Given as goal

abbrev pub invariant-loop-place : goal.invariant-loop-place
invariant-loop-place l =
    (number : ℕ) → number < l.place → IsFree l.self.index.entries (record { class = l.class; number = number })
