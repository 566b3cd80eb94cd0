-- The limits of every table.
use Rattle.std.specs.Prelude.{ℕ, ◌-◌, ◌^◌}

-- the most buckets
abbrev pub most_buckets : ℕ
most_buckets = 2 ^ 22

-- the last name that may be drawn
abbrev pub last_name : ℕ
last_name = 2 ^ 40 - 1

-- the last pass that may be drawn
abbrev pub last_pass : ℕ
last_pass = 65535
