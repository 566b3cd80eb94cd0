use Rattle.std.proofs.Common.{◌≡◌, ◌≤◌, ◌+◌, ◌-◌, ℕ, List, ◌∷◌, length, refl, arith}
use Rattle.std.specs.Prelude.{Option, Some, None, MatchOption}
use Rattle.command_file.specs.declared.command.Command.{Command}
use Rattle.command_file.specs.declared.place.Place.{Place}
use Rattle.command_file.specs.Grammar.{Says}
use Rattle.command_file.specs.Words.{words_in, Reads}
use Rattle.command_file.specs.Places.{PlacesWords, PlacesLine}
use Rattle.command_file.proofs.Parsing.{says_none}
use Rattle.command_file.proofs.Placing.{line_placed}
use Rattle.command_file.proofs.parse.place_command.Goals as goal

-- what the words say, the line says
by : (line first rest : List ℕ) (from at : ℕ) (result : Option Place) → length line ≤ 1024 → words_in line ≡ first ∷ words_in rest → at ≡ from + (length line - length rest)
    → MatchOption result ((c : Command) → ¬ (Reads (first ∷ words_in rest) c)) (PlacesWords (first ∷ words_in rest) rest at) → MatchOption result ((c : Command) → ¬ (Says line c)) (PlacesLine line from)
by line first rest from at None short words place none = says_none line (first ∷ words_in rest) words none
by line first rest from at (Some p) short words place placed = line_placed line first rest from at p short words place placed

pub returns-in-Some : goal.returns-in-Some
returns-in-Some c =
    by c.args.line.now c.in-Some.first.now c.in-Some.rest.now c.args.from _ c.place_words.result (omega arith) c.in-Some.ensures.parts refl c.place_words.ensures
