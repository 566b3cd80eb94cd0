use Rattle.std.specs.Prelude.{true}
use Rattle.version_words.specs.Rows.{limits_of}
use Rattle.row_player.proofs.words.vouched_row.play_vouched.Given as goal

-- the row that was just opened
abbrev pub ghosts-play_in : goal.ghosts-play_in
ghosts-play_in a = record { book = a.opened.book; names = a.opened.names; limits = limits_of a.opened.sizes true }
