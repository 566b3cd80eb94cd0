-- What the definitions of lines and files keep.
use Rattle.std.specs.Prelude.{◌≡◌, ℕ, List}
use Rattle.std.specs.List.{AllByRecursion}
use Rattle.command_file.specs.declared.command.Command.{Command}
use Rattle.command_file.specs.Grammar.{IsCommand, Says}
use Rattle.command_file.specs.Lines.{lines_of}
use Rattle.command_file.specs.Files.{SayAll, written, IsFile, IsBadLine, IsTooMany}

-- a line says one command at most
abbrev pub OneCommand : Type 0
OneCommand = (line : List ℕ) (command other : Command) → Says line command → Says line other → command ≡ other

-- the lines of a file say one list of commands at most
abbrev pub OneMeaning : Type 0
OneMeaning = (lines : List (List ℕ)) (commands others : List Command) → SayAll lines commands → SayAll lines others → commands ≡ others

-- what is written is said
abbrev pub WrittenIsSaid : Type 0
WrittenIsSaid = (commands : List Command) → AllByRecursion IsCommand commands → SayAll (lines_of (written commands)) commands

-- what is said, which line is the first bad one, and that there are too many lines: of a file, one of the three is so
pub record OneOutcome (lines : List (List ℕ)) : Type 0 where
  pub none_bad : (commands : List Command) (number : ℕ) → IsFile lines commands → ¬ (IsBadLine lines number)
  pub not_many : (commands : List Command) → IsFile lines commands → ¬ (IsTooMany lines)
  pub one_or_many : (number : ℕ) → IsBadLine lines number → ¬ (IsTooMany lines)
  pub one_bad : (number other : ℕ) → IsBadLine lines number → IsBadLine lines other → number ≡ other
