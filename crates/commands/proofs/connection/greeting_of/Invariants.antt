use Rattle.std.proofs.Common.{◌≡◌, ℕ, List, ◌++◌}
use Rattle.commands.specs.Arguments.{listed}
use Rattle.commands.specs.Servers.{IsGreeting}
use Rattle.commands.proofs.connection.greeting_of.Given as goal

abbrev pub invariant-options : goal.invariant-options
invariant-options l = IsGreeting (listed l.fn.words) l.said × ((before : List (List ℕ)) × (listed l.fn.words ≡ before ++ listed l.rest))
