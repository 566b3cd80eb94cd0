use Rattle.std.specs.Prelude.{true}
use Rattle.version_words.specs.Rows.{limits_of}
use Rattle.hash_table.specs.Configs.{sizes_of}
use Rattle.farbench.proofs.eviction.time.Given as goal

-- the table that was just opened
abbrev pub ghosts-over_table : goal.ghosts-over_table
ghosts-over_table g a = record { book = a.opening.row.book; names = a.opening.row.names; limits = limits_of (sizes_of a.opening.config) true }
