-- APPEND and SETRANGE.
use Rattle.std.specs.Prelude.{ℕ, ◌+◌, ◌-◌, ◌==◌, if◌then◌else◌, List, length, take, drop, replicate, ◌++◌, Option}
use Rattle.key_commands.specs.Values.{Value, bytes_of, deadline_of}
use Rattle.key_commands.specs.Outcomes.{Outcome, replies, sets, fitting}
use Rattle.key_commands.specs.Reading.{size_of}

abbrev pub appended : List ℕ → ℕ → Option Value → Outcome
appended new most v = fitting most (length (bytes_of v) + length new) (sets (size_of (bytes_of v ++ new)) (deadline_of v) (bytes_of v ++ new))

-- the old bytes with the new ones over them from a place on, and NUL up to it where the old ones are fewer
abbrev pub over : ℕ → List ℕ → List ℕ → List ℕ
over offset new old = (take offset old ++ replicate (offset - length old) 0) ++ (new ++ drop (offset + length new) old)

-- nothing is written where there is nothing to write
abbrev pub overwritten : ℕ → List ℕ → ℕ → Option Value → Outcome
overwritten offset new most v = if length new == 0 then replies (size_of (bytes_of v))
    else fitting most (offset + length new) (sets (size_of (over offset new (bytes_of v))) (deadline_of v) (over offset new (bytes_of v)))
