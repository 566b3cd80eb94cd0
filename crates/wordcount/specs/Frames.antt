-- How many frames threads need.
use Rattle.std.specs.Prelude.{ℕ, nat_le, ◌*◌, if◌then◌else◌}

-- one thread does with one, and each of several has two
abbrev pub least_frames : ℕ → ℕ
least_frames threads = if nat_le 2 threads then threads * 2 else 1
