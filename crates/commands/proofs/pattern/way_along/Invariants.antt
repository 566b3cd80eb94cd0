use Rattle.std.proofs.Common.{ℕ, length}
use Rattle.commands.specs.Patterns.{Leads}
use Rattle.commands.proofs.pattern.way_along.Given as goal

abbrev pub invariant-parts : goal.invariant-parts
invariant-parts l = (n : ℕ) × Leads n l.fn.pattern l.fn.text l.parts l.left

abbrev pub decreases-parts : goal.decreases-parts
decreases-parts l = length l.left
