use Rattle.std.proofs.Common.{length}
use Rattle.commands.specs.declared.command.Only.{Only}
use Rattle.commands.specs.Arguments.{listed}
use Rattle.commands.specs.Options.{AreOnly, everywhere}
use Rattle.commands.proofs.options.only_of.Given as goal

abbrev pub invariant-loop-word : goal.invariant-loop-word
invariant-loop-word l = (t : Only) → AreOnly (listed l.rest) l.only t → AreOnly (listed l.fn.words) everywhere t

abbrev pub decreases-loop-word : goal.decreases-loop-word
decreases-loop-word l = length (listed l.rest)
