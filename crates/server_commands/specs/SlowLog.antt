-- What SLOWLOG keeps of a command.
use Rattle.std.specs.Prelude.{◌≡◌, ℕ, List, All, drop, codes}
use Rattle.std.specs.Global.{Vec}

-- what is kept in the place of an argument that may be a password
abbrev pub redacted : List ℕ
redacted = codes "(redacted)"

-- nothing is kept of the arguments behind the name
abbrev pub IsRedacted : List (Vec ℕ) → Type 0
IsRedacted kept = All (λ argument. argument.items ≡ redacted) (drop 1 kept)
