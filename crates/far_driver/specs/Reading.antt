-- The files of a run, and the fault of the first that is none.
use Rattle.std.specs.Prelude.{◌≡◌, ℕ, ◌+◌, List, [], ◌∷◌, ◌++◌, length, Option, IfSome, ⊤}
use Rattle.command_file.specs.declared.command.Command.{Command}
use Rattle.command_file.specs.Lines.{lines_of}
use Rattle.command_file.specs.Files.{IsFile, IsBadLine, IsTooMany}
use Rattle.far_driver.specs.declared.fault.RunFault.{RunFault}
use Rattle.far_driver.specs.declared.fault.RunFault.TheVariants as fault

-- where a reader tells its bytes, their lines are the file of these commands
abbrev pub AreFiles : List (Option (List ℕ)) → List (List Command) → Type 0
AreFiles [] [] = ⊤
AreFiles [] (commands ∷ files) = ⊥
AreFiles (known ∷ more) [] = ⊥
AreFiles (known ∷ more) (commands ∷ files) = IfSome known (λ bytes. IsFile (lines_of bytes) commands) × AreFiles more files

-- the file of this number, where the first of all has the number `from`, has what is said of its bytes, and those before it are files
pub record IsFirst (from : ℕ) (all : List (Option (List ℕ))) (number : ℕ) (P : List ℕ → Type 0) : Type 0 where
  pub before : List (Option (List ℕ))
  pub known : Option (List ℕ)
  pub behind : List (Option (List ℕ))
  pub is : all ≡ before ++ known ∷ behind
  pub counted : number ≡ length before + from
  pub commands : List (List Command)
  pub files : AreFiles before commands
  pub fits : IfSome known P

-- the fault is that of the first file that has one, where the first of all has the number `from`
abbrev pub IsFaultFrom : ℕ → List (Option (List ℕ)) → RunFault → Type 0
IsFaultFrom from all (fault.BadLine number line) = IsFirst from all number (λ bytes. IsBadLine (lines_of bytes) line)
IsFaultFrom from all (fault.TooManyLines number) = IsFirst from all number (λ bytes. IsTooMany (lines_of bytes))
IsFaultFrom from all (fault.Read number) = IsFirst from all number (λ bytes. ⊤)
IsFaultFrom from all fault.Memory = ⊤
IsFaultFrom from all _ = ⊥

-- the same where the files are counted from 1
abbrev pub IsFaultOfOne : List (Option (List ℕ)) → RunFault → Type 0
IsFaultOfOne all fault = IsFaultFrom 1 all fault
