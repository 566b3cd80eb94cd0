use Rattle.std.proofs.Common.{◌≡◌, length}
use Rattle.commands.specs.declared.options.Options.{Options}
use Rattle.commands.specs.Arguments.{listed}
use Rattle.commands.specs.Options.{AreOptions, nothing_said}
use Rattle.commands.proofs.options.options_of.Given as goal

-- whatever the words that are left say behind what was said, all of them say
abbrev pub invariant-loop-word : goal.invariant-loop-word
invariant-loop-word l = ((t : Options) → AreOptions l.of (listed l.rest) l.said t → AreOptions l.of (listed l.fn.words) nothing_said t)
    × (length (listed l.fn.words) ≡ 0 → (l.said ≡ nothing_said) × (length (listed l.rest) ≡ 0))

abbrev pub decreases-loop-word : goal.decreases-loop-word
decreases-loop-word l = length (listed l.rest)
