-- Steps behind steps.
use Rattle.std.proofs.Common.{ℕ, zero, suc, refl, subst}
use Rattle.far_server.specs.Sessions.{Session}
use Rattle.far_server.specs.Steps.{AreSteps, Steps}

module _ (Step : Session → Session → Type 0) where
  pub no_step : (a : Session) → Steps Step a a
  no_step a = (0, refl)

  pub one_more : (a b c : Session) → Steps Step a b → Step b c → Steps Step a c
  one_more a b c steps step = (suc steps.0, (b, steps.1, step))

  pub one_step : (a b : Session) → Step a b → Steps Step a b
  one_step a b step = one_more a a b (no_step a) step

  both_so : (n : ℕ) (a b c : Session) → Steps Step a b → AreSteps Step n b c → Steps Step a c
  both_so zero a b c first same = subst (λ (s : Session). Steps Step a s) same first
  both_so (suc n) a b c first rest = one_more a rest.0 c (both_so n a b rest.0 first rest.1) rest.2

  pub both : (a b c : Session) → Steps Step a b → Steps Step b c → Steps Step a c
  both a b c first second = both_so second.0 a b c first second.1
