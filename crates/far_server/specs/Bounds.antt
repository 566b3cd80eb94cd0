-- How long a reply may be.
use Rattle.std.specs.Prelude.{ℕ, ◌+◌, List, codes}

-- the most bytes of the reply that is a value, where values have at most so many
abbrev pub longest : ℕ → ℕ
longest most = most + 16

-- the error in place of what would make a reply too long
abbrev pub too_large : List ℕ
too_large = codes "ERR reply is too large"
