use Rattle.std.specs.Prelude.{true}
use Rattle.version_words.specs.Rows.{limits_of}
use Rattle.hash_table.specs.Configs.{sizes_of}
use Rattle.page_tests.proofs.tests.table.as_shown.Given as goal

-- the row that was just opened
abbrev pub ghosts-calls : goal.ghosts-calls
ghosts-calls g a = record { book = a.opening.row.book; names = a.opening.row.names; limits = limits_of (sizes_of a.opening.config) true }
