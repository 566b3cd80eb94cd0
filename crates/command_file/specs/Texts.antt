-- A file's lines as they were read, before they are parsed.
use Rattle.std.specs.Prelude.{◌≡◌, ℕ, ◌+◌, ◌<◌, ◌≤◌, List, ◌∷◌, ◌++◌, length, Result, Ok, Err}
use mathlib.Core.List.{IsPrefix}
use Rattle.command_file.specs.declared.fault.FileFault.{FileFault}
use Rattle.command_file.specs.declared.fault.FileFault.TheVariants.{BadLine, TooManyLines, Read, Memory}
use Rattle.command_file.specs.Files.{most_lines}

-- the lines that were read, and why no more were
pub record TextView : Type 0 where
  pub lines : List (List ℕ)
  pub end : Result (Unit {0}) FileFault

-- of all lines the first so many were read, and the next, of this number, is longer than a line may be
pub record StopsAtLong (all lines : List (List ℕ)) (number : ℕ) : Type 0 where
  pub line : List ℕ
  pub rest : List (List ℕ)
  pub is : all ≡ lines ++ line ∷ rest
  pub long : 1024 < length line
  pub counted : number ≡ length lines + 1
  pub within : number ≤ most_lines

-- as many as a file may have were read, and there are more
pub record StopsAtMost (all lines : List (List ℕ)) : Type 0 where
  pub rest : List (List ℕ)
  pub is : all ≡ lines ++ rest
  pub more : 0 < length rest
  pub most : length lines ≡ most_lines

-- these lines were read of all, and the reading ended so
abbrev pub EndsSo : List (List ℕ) → List (List ℕ) → Result (Unit {0}) FileFault → Type 0
EndsSo all lines (Ok done) = (all ≡ lines) × (length lines ≤ most_lines)
EndsSo all lines (Err (BadLine number)) = StopsAtLong all lines number
EndsSo all lines (Err TooManyLines) = StopsAtMost all lines
EndsSo all lines (Err Read) = IsPrefix lines all
EndsSo all lines (Err Memory) = IsPrefix lines all
