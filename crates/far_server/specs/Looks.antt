-- The server's looks at the clock.
use Rattle.std.specs.Prelude.{ℕ}

-- The clock answered a look of the server by this time, in milliseconds since 1970, or by none, which is 0 here. It is opaque: who promises
-- it looked at the clock, or cites the lemma below, which is for the proof of `milliseconds` alone. Nothing is said of two looks, because the
-- system's clock may be set back.
pub WasLookedAt : ℕ → Type 0
WasLookedAt now = Unit {0}

pub was_looked_at : (now : ℕ) → WasLookedAt now
unfolding WasLookedAt
was_looked_at now = tt
