use Rattle.std.specs.Prelude.{false}
use Rattle.version_words.specs.Rows.{limits_of}
use Rattle.row_player.proofs.lanes.opening.over.Given as goal

-- the row that was just opened
abbrev pub ghosts-play_in : goal.ghosts-play_in
ghosts-play_in g a = record { book = a.opened.book; names = a.opened.names; limits = limits_of a.opened.sizes false }
