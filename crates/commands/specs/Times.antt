-- Times as commands give them.
use Rattle.std.specs.Prelude.{ℕ, ℤ, pos, negsuc, ◌+ℤ◌, ◌*ℤ◌, FitsSigned, max}
use Rattle.std.specs.Int.{w64}
use Rattle.commands.specs.declared.time.Clock.{Clock}
use Rattle.commands.specs.declared.time.Clock.TheVariants.{Seconds, Milliseconds, UnixSeconds, UnixMilliseconds}
use Rattle.commands.specs.declared.time.Time.{Time}

-- milliseconds
abbrev pub counted : Clock → ℤ → ℤ
counted Seconds amount = amount *ℤ pos 1000
counted Milliseconds amount = amount
counted UnixSeconds amount = amount *ℤ pos 1000
counted UnixMilliseconds amount = amount

-- milliseconds since 1970
abbrev pub since : Clock → ℤ → ℕ → ℤ
since Seconds milliseconds now = milliseconds +ℤ pos now
since Milliseconds milliseconds now = milliseconds +ℤ pos now
since UnixSeconds milliseconds now = milliseconds
since UnixMilliseconds milliseconds now = milliseconds

abbrev pub when : Time → ℕ → ℤ
when time now = since time.clock (counted time.clock time.amount) now

-- both are numbers of 64 bits with a sign
pub record IsTime (time : Time) (now : ℕ) : Type 0 where
  pub counts : FitsSigned w64 (counted time.clock time.amount)
  pub fits : FitsSigned w64 (when time now)

-- what is at or before the first millisecond of 1970 is that
abbrev pub deadline_at : ℤ → ℕ
deadline_at (pos n) = max n 1
deadline_at (negsuc n) = 1
