use Rattle.std.proofs.Common.{◌≡◌, ℕ, List, ◌++◌}
use Rattle.commands.specs.Arguments.{listed}
use Rattle.commands.specs.Servers.{IsScan}
use Rattle.commands.proofs.scan.with_options.Given as goal

abbrev pub invariant-options : goal.invariant-options
invariant-options l = IsScan (listed l.fn.words) l.said × (l.said.cursor ≡ l.first.cursor) × ((before : List (List ℕ)) × (listed l.fn.words ≡ before ++ listed l.rest))
