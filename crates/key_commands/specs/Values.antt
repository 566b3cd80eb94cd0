-- What a key has at a time.
use Rattle.std.specs.Prelude.{ℕ, Bool, ◌==◌, ◌&&◌, not, nat_lt, nat_le, if◌then◌else◌, List, [], length, take, drop, Option, Some, None}
use Rattle.std.specs.Int.{w64, from_be_bytes}

-- bytes, and when they expire: in milliseconds since 1970, or 0 for never
pub record Value : Type 0 where
  pub deadline : ℕ
  pub bytes : List ℕ

-- the deadline stands in the first eight bytes, the highest first
abbrev pub value_in : List ℕ → Value
value_in stored = record { deadline = from_be_bytes w64 (take 8 stored); bytes = drop 8 stored }

-- a value is expired from the millisecond of its deadline on
abbrev pub is_over : ℕ → ℕ → Bool
is_over deadline now = not (deadline == 0) && nat_le deadline now

abbrev pub unless_over : ℕ → Value → Option Value
unless_over now v = if is_over v.deadline now then None else Some v

-- what a key has at this time that has these stored bytes: an expired value is none, and bytes too few for a deadline are none
abbrev pub live : ℕ → Option (List ℕ) → Option Value
live now None = None
live now (Some stored) = if nat_lt (length stored) 8 then None else unless_over now (value_in stored)

abbrev pub bytes_of : Option Value → List ℕ
bytes_of None = []
bytes_of (Some v) = v.bytes

abbrev pub deadline_of : Option Value → ℕ
deadline_of None = 0
deadline_of (Some v) = v.deadline
