use Rattle.std.specs.Prelude.{false}
use Rattle.version_words.specs.Rows.{limits_of}
use Rattle.farbench.proofs.words.measure.Given as goal

-- the row that was just opened
abbrev pub ghosts-on_opened : goal.ghosts-on_opened
ghosts-on_opened g a = record { book = a.opened.book; names = a.opened.names; limits = limits_of a.opened.sizes false }
