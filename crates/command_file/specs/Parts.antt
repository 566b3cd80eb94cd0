-- What the lines say of a part of a text, and how a text is cut in two.
use Rattle.std.specs.Prelude.{◌≡◌, ℕ, ◌+◌, ◌≤◌, List, ◌++◌, length, map, Result, Ok, Err}
use Rattle.command_file.specs.declared.fault.FileFault.{FileFault}
use Rattle.command_file.specs.declared.place.Place.{Place}
use Rattle.command_file.specs.declared.part.Part.{Part}
use Rattle.command_file.specs.Lines.{lines_of}
use Rattle.command_file.specs.Files.{most_lines, SayAll, IsFileFault, IsNumbered}
use Rattle.command_file.specs.Places.{command_in, AreWithin, StandsAt}

-- in each text in which the bytes stand from this place on, their lines, which are so many, say the commands that lie so
pub record PlacesLines (bytes : List ℕ) (from : ℕ) (places : List Place) (count : ℕ) : Type 0 where
  pub ends : AreWithin (from + length bytes) places
  pub counted : length (lines_of bytes) ≡ count
  pub few : count ≤ most_lines
  pub say : (text : List ℕ) → StandsAt text from bytes → SayAll (lines_of bytes) (map (command_in text) places)

-- the lines say commands that lie so, or have the fault that a file of them has
abbrev pub IsPlaced : List ℕ → ℕ → Result Part FileFault → Type 0
IsPlaced bytes from (Ok part) = PlacesLines bytes from part.places.items part.lines
IsPlaced bytes from (Err fault) = IsFileFault (lines_of bytes) fault × IsNumbered fault

-- the bytes are these two, one behind the other, and no line stands in both
pub record AreCut (bytes first second : List ℕ) : Type 0 where
  pub is : bytes ≡ first ++ second
  pub lines : lines_of bytes ≡ lines_of first ++ lines_of second
