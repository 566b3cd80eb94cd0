-- What a file says, and which fault it has.
use Rattle.std.specs.Prelude.{◌≡◌, ℕ, ◌+◌, ◌<◌, ◌≤◌, List, [], ◌∷◌, ◌++◌, length, take, ⊤}
use Rattle.std.specs.List.{AllByRecursion}
use Rattle.command_file.specs.declared.command.Command.{Command}
use Rattle.command_file.specs.declared.fault.FileFault.{FileFault}
use Rattle.command_file.specs.declared.fault.FileFault.TheVariants.{BadLine, TooManyLines, Read, Memory}
use Rattle.command_file.specs.Grammar.{spelling, Says, IsGood}

abbrev pub most_lines : ℕ
most_lines = 65536

-- the lines say exactly these commands, in this order, where an empty line says nothing
abbrev pub SayAll : List (List ℕ) → List Command → Type 0
SayAll [] [] = ⊤
SayAll [] (command ∷ commands) = ⊥
SayAll ([] ∷ lines) commands = SayAll lines commands
SayAll ((byte ∷ bytes) ∷ lines) [] = ⊥
SayAll ((byte ∷ bytes) ∷ lines) (command ∷ commands) = Says (byte ∷ bytes) command × SayAll lines commands

-- the commands, a line each
abbrev pub written : List Command → List ℕ
written [] = []
written (command ∷ commands) = spelling command ++ 10 ∷ written commands

-- the lines are a file's, and say these commands
pub record IsFile (lines : List (List ℕ)) (commands : List Command) : Type 0 where
  pub few : length lines ≤ most_lines
  pub say : SayAll lines commands

-- the first line that is not good has this number, counted from 1, and a file may have so many lines
pub record IsBadLine (lines : List (List ℕ)) (number : ℕ) : Type 0 where
  pub before : List (List ℕ)
  pub line : List ℕ
  pub behind : List (List ℕ)
  pub is : lines ≡ before ++ line ∷ behind
  pub good : AllByRecursion IsGood before
  pub bad : ¬ (IsGood line)
  pub counted : number ≡ length before + 1
  pub within : number ≤ most_lines

-- the lines that a file may have are good, and there are more
pub record IsTooMany (lines : List (List ℕ)) : Type 0 where
  pub more : most_lines < length lines
  pub good : AllByRecursion IsGood (take most_lines lines)

-- a failed read and want of memory may come at any lines
abbrev pub IsFileFault : List (List ℕ) → FileFault → Type 0
IsFileFault lines (BadLine number) = IsBadLine lines number
IsFileFault lines TooManyLines = IsTooMany lines
IsFileFault lines Read = ⊤
IsFileFault lines Memory = ⊤

-- the number of a bad line is that of a line that a file may have
abbrev pub IsNumbered : FileFault → Type 0
IsNumbered (BadLine number) = (1 ≤ number) × (number ≤ most_lines)
IsNumbered _ = ⊤
