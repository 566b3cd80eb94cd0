use Rattle.std.proofs.Common.{◌≡◌, ◌||◌, length}
use Rattle.commands.specs.Patterns.{in_class, behind_class}
use Rattle.commands.proofs.pattern.look_up.Given as goal

abbrev pub invariant-members : goal.invariant-members
invariant-members l = (in_class 0 l.fn.class l.byte ≡ (l.found || in_class 0 l.rest l.byte)) × (behind_class 0 l.fn.class ≡ behind_class 0 l.rest)

abbrev pub decreases-members : goal.decreases-members
decreases-members l = length l.rest
