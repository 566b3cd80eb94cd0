use Rattle.std.proofs.Common.{◌≡◌, ◌++◌, map, Some, IsSome}
use Rattle.std.specs.List.{AllByRecursion}
use Rattle.far_map.proofs.single_term.outs_of.Given as goal

-- what was taken, and behind it what is left, of which each is there
abbrev pub invariant-loop-state : goal.invariant-loop-state
invariant-loop-state g l = AllByRecursion IsSome l.state-iterator.rest.items × (map Some l.outs.items ++ l.state-iterator.rest.items ≡ l.fn.states.items)
