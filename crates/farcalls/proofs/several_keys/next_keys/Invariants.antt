use Rattle.std.proofs.Common.{◌≡◌, ◌≤◌, ◌∷◌, ◌++◌, length}
use Rattle.commands.specs.Arguments.{listed}
use Rattle.farcalls.proofs.several_keys.next_keys.Given as goal

abbrev pub invariant-loop : goal.invariant-loop
invariant-loop l = (l.first ∷ listed l.behind ≡ l.texts.items ++ listed l.rest) × (length (listed l.rest) ≤ length (listed l.behind))
