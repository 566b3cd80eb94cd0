-- Whether a device gives what was written.
use Rattle.std.specs.Prelude.{Bool, true, false}
use Rattle.digests.specs.Collisions.{nothing_collided}

-- a device over a disk: where the disk gives what was written, and over any other where no digest collided
abbrev pub is_honest_over : Bool → Bool
is_honest_over true = true
is_honest_over false = nothing_collided
