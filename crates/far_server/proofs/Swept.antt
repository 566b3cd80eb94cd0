-- What the sweep does, step by step.
use Rattle.std.proofs.Common.{ℕ, zero, suc, Bool, true, None, Result, Ok, Err, refl, inl, inr}
use Rattle.table_core.specs.declared.limits.Limits.{Limits}
use Rattle.version_words.specs.Views.{Goes}
use Rattle.far_server.specs.Sessions.{Session}
use Rattle.far_server.specs.Steps.{AreSteps}
use Rattle.far_map.specs.declared.refusal.MapRefusal.{MapRefusal}
use Rattle.far_server.specs.Flushes.{IsRemoval, Flushes, IsFlushing}
use Rattle.far_server.specs.Sweeps.{Expires, IsSweeping, Sweeps}
use Rattle.far_server.proofs.Going.{no_step, one_step, both}
use Rattle.far_server.proofs.Flushing.{found_steps}

module _ (l : Limits) (evicts : Bool) where
  pub nothing : (a : Session) → Sweeps l evicts a a
  nothing a = no_step (IsSweeping l evicts) a

  pub went : (a b : Session) → Goes a.pass b.pass → Sweeps l evicts a b
  went a b goes = one_step (IsSweeping l evicts) a b (inl goes)

  pub went_on : (a b c : Session) → Sweeps l evicts a b → Goes b.pass c.pass → Sweeps l evicts a c
  went_on a b c swept goes = both (IsSweeping l evicts) a b c swept (went b c goes)

  pub expires : (a b : Session) → Expires l a b → Sweeps l evicts a b
  expires a b gone = one_step (IsSweeping l evicts) a b (inr (inl gone))

  pub then : (a b c : Session) → Sweeps l evicts a b → Sweeps l evicts b c → Sweeps l evicts a c
  then a b c first second = both (IsSweeping l evicts) a b c first second

module _ (l : Limits) where
  is_sweeping : (a b : Session) → IsRemoval l None a b → IsSweeping l true a b
  is_sweeping a b (inl goes) = inl goes
  is_sweeping a b (inr removes) = inr (inr (refl, removes))

  are_sweeping : (n : ℕ) (a b : Session) → AreSteps (IsRemoval l None) n a b → AreSteps (IsSweeping l true) n a b
  are_sweeping zero a b same = same
  are_sweeping (suc n) a b steps = (steps.0, are_sweeping n a steps.0 steps.1, is_sweeping steps.0 b steps.2)

  evicted_so : (a b : Session) → Flushes l None a b → Sweeps l true a b
  evicted_so a b flushes = (flushes.0, are_sweeping flushes.0 a b flushes.1)

  -- the keys of a bucket were taken out to make room
  pub evicted : (bucket : ℕ) (a b : Session) (r : Result (Unit {0}) MapRefusal) → IsFlushing l None bucket a b r → Sweeps l true a b
  evicted bucket a b (Ok x) (mid, keys, finds, taken) = evicted_so a b (found_steps l None bucket keys keys a mid b finds taken)
  evicted bucket a b (Err why) flushes = evicted_so a b flushes
