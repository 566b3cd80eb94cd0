use Rattle.std.proofs.Common.{◌+◌, ◌∷◌, ◌↔◌, length}
use Rattle.commands.specs.Patterns.{Matches}
use Rattle.commands.proofs.pattern.matches_behind_star.Given as goal

abbrev pub invariant-stars : goal.invariant-stars
invariant-stars l = Matches (42 ∷ l.fn.pattern) l.fn.text ↔ Matches (42 ∷ l.behind) l.left

abbrev pub decreases-stars : goal.decreases-stars
decreases-stars l = length l.behind + length l.left
