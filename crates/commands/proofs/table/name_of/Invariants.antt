use Rattle.std.proofs.Common.{◌≢◌, ◌<◌, map, ℕ}
use Rattle.std.specs.Char.{to_ascii_lowercase}
use Rattle.commands.specs.Rows.{text_at}
use Rattle.commands.proofs.table.name_of.Given as goal

-- no entry before this one has the word
abbrev pub invariant-loop-index : goal.invariant-loop-index
invariant-loop-index l = (i : ℕ) → i < l.index → map to_ascii_lowercase l.word ≢ text_at i
