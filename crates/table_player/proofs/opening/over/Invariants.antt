use Rattle.version_words.specs.Rows.{limits_of}
use Rattle.hash_table.specs.Configs.{sizes_of}
use Rattle.table_player.proofs.opening.over.Given as goal

-- the row that was just opened
abbrev pub ghosts-on_opened : goal.ghosts-on_opened
ghosts-on_opened g a = record { book = a.opening.row.book; names = a.opening.row.names; limits = limits_of (sizes_of a.opening.config) g.D.Device.HONEST }
