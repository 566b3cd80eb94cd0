-- Sessions that go on step by step.
use Rattle.std.specs.Prelude.{◌≡◌, ℕ, zero, suc}
use Rattle.far_server.specs.Sessions.{Session}

module _ (Step : Session → Session → Type 0) where
  -- so many steps
  abbrev pub AreSteps : ℕ → Session → Session → Type 0
  AreSteps zero old new = old ≡ new
  AreSteps (suc n) old new = (mid : Session) × AreSteps n old mid × Step mid new

  -- some
  abbrev pub Steps : Session → Session → Type 0
  Steps old new = (n : ℕ) × AreSteps n old new
