-- The first bytes of a key, as a number.
use Rattle.std.specs.Prelude.{ℕ, zero, suc, ◌+◌, ◌*◌, List, get_or}

-- the number that the first n bytes spell, the highest first; zeros stand for those that are missing
abbrev pub spelled : List ℕ → ℕ → ℕ
spelled xs zero = 0
spelled xs (suc n) = spelled xs n * 256 + get_or xs n 0
