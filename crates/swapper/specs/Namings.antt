-- The name of a queue, and what its opening tells.
use Rattle.std.specs.Prelude.{ℕ, []}
use Rattle.atomic_table.specs.Seated.{TableId}

-- the name of no queue
abbrev pub no_table : TableId
no_table = record { words = 0; slots = 0; views_name = 0; atom = 0; block = 0; offset = 0; slot_names = [] }

-- a queue that has no name yet: what proofs call it, and for how many spares it has room
pub record QueueOpeningView : Type 0 where
  pub table : TableId
  pub capacity : ℕ
