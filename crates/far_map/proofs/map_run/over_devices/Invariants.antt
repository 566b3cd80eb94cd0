use Rattle.version_words.specs.Rows.{limits_of}
use Rattle.hash_table.specs.Configs.{sizes_of}
use Rattle.far_map.proofs.map_run.over_devices.Given as goal

-- the row that was just opened
abbrev pub ghosts-over_row : goal.ghosts-over_row
ghosts-over_row g a = record { book = a.opening.row.book; names = a.opening.row.names; limits = limits_of (sizes_of a.opening.config) g.D.Device.HONEST }
