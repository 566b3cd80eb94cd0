-- What reading a line does to a reader's bytes, where those are known.
use Rattle.std.specs.Prelude.{◌≡◌, ◌≢◌, ℕ, ◌<◌, ◌≤◌, ◌⊎◌, Bool, true, false, List, [], ◌∷◌, ◌++◌, length, All, Option, Some, None, IfSome, OnSome, ⊤}
use Rattle.std.specs.List.{AllByRecursion}
use Rattle.std.specs.Io.KnownBytes.{IsAtEnd, Consumes}
use Rattle.command_file.specs.declared.fault.FileFault.{FileFault}
use Rattle.command_file.specs.declared.fault.FileFault.TheVariants.{BadLine, TooManyLines, Read, Memory}
use Rattle.command_file.specs.declared.line.LineRead.{LineRead}
use Rattle.command_file.specs.declared.line.LineRead.TheVariants.{End, Line, TooLong}
use Rattle.command_file.specs.Lines.{lines_of}

-- the fault is none of the file's lines
abbrev pub IsOfReading : FileFault → Type 0
IsOfReading Read = ⊤
IsOfReading Memory = ⊤
IsOfReading (BadLine number) = ⊥
IsOfReading TooManyLines = ⊥

-- no LF is among the bytes
abbrev pub HasNoFeed : List ℕ → Type 0
HasNoFeed bytes = All (λ byte. byte ≢ 10) bytes

-- the known bytes lose their first line, which is this
abbrev pub TakesLine : Option (List ℕ) → Option (List ℕ) → List ℕ → Type 0
TakesLine None new line = ⊤
TakesLine (Some bytes) None line = ⊥
TakesLine (Some bytes) (Some rest) line = lines_of bytes ≡ line ∷ lines_of rest

-- the first line of the bytes is longer than a line may be
pub record BeginsTooLong (bytes : List ℕ) : Type 0 where
  pub line : List ℕ
  pub rest : List (List ℕ)
  pub is : lines_of bytes ≡ line ∷ rest
  pub long : 1024 < length line

abbrev pub ReadsLine : Option (List ℕ) → Option (List ℕ) → List ℕ → LineRead → Type 0
ReadsLine old new line End = IsAtEnd old × OnSome old (IsAtEnd new)
ReadsLine old new line Line = TakesLine old new line × (length line ≤ 1024)
ReadsLine old new line TooLong = IfSome old BeginsTooLong

-- a look at the reader brought the line to its LF, or showed that no byte is left, or neither
abbrev pub Ends : List ℕ → Bool → Bool → Option LineRead → Type 0
Ends line at_end feed None = (feed ≡ false) × (at_end ≡ false) × (length line ≤ 1024)
Ends line at_end feed (Some End) = (feed ≡ false) × (at_end ≡ true) × (line ≡ [])
Ends line at_end feed (Some Line) = (feed ≡ true) ⊎ ((feed ≡ false) × (at_end ≡ true) × (0 < length line))
Ends line at_end feed (Some TooLong) = (feed ≡ false) × (at_end ≡ false) × (1024 < length line)

-- lines, each with an LF behind it
abbrev pub spelled : List (List ℕ) → List ℕ
spelled [] = []
spelled (line ∷ lines) = line ++ 10 ∷ spelled lines

-- the line is no longer than a line may be
abbrev pub IsShort : List ℕ → Type 0
IsShort line = length line ≤ 1024

-- the bytes are so many lines, none too long and each with an LF behind it
pub record AreWhole (bytes : List ℕ) (count : ℕ) : Type 0 where
  pub lines : List (List ℕ)
  pub free : AllByRecursion HasNoFeed lines
  pub short : AllByRecursion IsShort lines
  pub is : bytes ≡ spelled lines
  pub counted : length lines ≡ count

-- so many lines went from the reader to the text
pub record TakesWhole (old new : Option (List ℕ)) (text more : List ℕ) (count : ℕ) : Type 0 where
  pub bytes : List ℕ
  pub whole : AreWhole bytes count
  pub took : Consumes old new bytes
  pub put : more ≡ text ++ bytes
