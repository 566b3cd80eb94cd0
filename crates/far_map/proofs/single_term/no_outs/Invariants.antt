use Rattle.std.proofs.Common.{◌≡◌, length}
use Rattle.far_map.proofs.single_term.no_outs.Given as goal

-- a state for each turn
abbrev pub invariant-loop : goal.invariant-loop
invariant-loop g l = length l.states.items ≡ l.counter
