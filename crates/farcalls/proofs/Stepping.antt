-- What the steps of a session leave.
use Rattle.std.proofs.Common.{◌≡◌, List, [], ◌∷◌, sym, ap, ◌∙◌}
use Rattle.request_loop.specs.Calls.{Call, Step, Took, Ended, Woke, Began, Heard, Answered, Passed, Does, Run}

module _ {X : Type 0} {does : X → Call → X → Type 0} where
  -- what each call keeps is kept by all
  step_keeps : {N : Type 0} (x y : X) (step : Step) → Does does x step y → (name : X → N) → ((u v : X) (c : Call) → does u c v → name v ≡ name u) → name y ≡ name x
  step_keeps x y (Took c (Answered what reply next)) did name keeps = keeps x y _ did
  step_keeps x y (Took c (Passed what)) did name keeps = ap name (sym did)
  step_keeps x y (Ended c) did name keeps = keeps x y _ did
  step_keeps x y (Woke w) did name keeps = keeps x y _ did
  step_keeps x y (Began c address let_in) did name keeps = keeps x y _ did
  step_keeps x y (Heard text reply) did name keeps = keeps x y _ did

  pub run_keeps : {N : Type 0} (x y : X) (steps : List Step) → Run does x steps y → (name : X → N) → ((u v : X) (c : Call) → does u c v → name v ≡ name u) → name y ≡ name x
  run_keeps x y [] run name keeps = ap name (sym run)
  run_keeps x y (step ∷ steps) run name keeps = run_keeps run.0 y steps run.2 name keeps ∙ step_keeps x run.0 step run.1 name keeps

  -- what each call does as it is seen is done by all, where something stays the same
  step_seen : {Y N : Type 0} (x y : X) (step : Step) → Does does x step y → (seen : X → Y) (acts : Y → Call → Y → Type 0) (name : X → N) (n : N)
      → ((u v : X) (c : Call) → name u ≡ n → does u c v → acts (seen u) c (seen v)) → name x ≡ n → Does acts (seen x) step (seen y)
  step_seen x y (Took c (Answered what reply next)) did seen acts name n so is = so x y _ is did
  step_seen x y (Took c (Passed what)) did seen acts name n so is = ap seen did
  step_seen x y (Ended c) did seen acts name n so is = so x y _ is did
  step_seen x y (Woke w) did seen acts name n so is = so x y _ is did
  step_seen x y (Began c address let_in) did seen acts name n so is = so x y _ is did
  step_seen x y (Heard text reply) did seen acts name n so is = so x y _ is did

  pub run_seen : {Y N : Type 0} (x y : X) (steps : List Step) → Run does x steps y → (seen : X → Y) (acts : Y → Call → Y → Type 0) (name : X → N) (n : N)
      → ((u v : X) (c : Call) → does u c v → name v ≡ name u) → ((u v : X) (c : Call) → name u ≡ n → does u c v → acts (seen u) c (seen v)) → name x ≡ n → Run acts (seen x) steps (seen y)
  run_seen x y [] run seen acts name n keeps so is = ap seen run
  run_seen x y (step ∷ steps) run seen acts name n keeps so is = (
    seen run.0,
    step_seen x run.0 step run.1 seen acts name n so is,
    run_seen run.0 y steps run.2 seen acts name n keeps so (step_keeps x run.0 step run.1 name keeps ∙ is),
  )
