use Rattle.std.specs.List.{FoldsTo}
use Rattle.far_map.proofs.all_pairs.hand_over.Given as goal

abbrev pub invariant-loop-key : goal.invariant-loop-key
invariant-loop-key g l = goal.F-IsAlwaysCallable g l.visit × FoldsTo (λ f pair h. goal.F-step g f pair.0 pair.1 tt h) l.fn.visit l.yielded l.visit
