-- What is said of a run of files that readers give, and of its faults.
use Rattle.std.specs.Prelude.{ℕ, List, length, Option, Some, None, Result, Err, ⊤}
use Rattle.std.specs.Io.KnownBytes.{Keeps, Appends}
use Rattle.hash_table.specs.declared.config.Config.{Config}
use Rattle.hash_table.specs.Openings.{WasOpened}
use Rattle.command_file.specs.declared.command.Command.{Command}
use Rattle.run_lines.specs.Runs.{Ran}
use Rattle.threaded_run.specs.Replies.{MayReply}
use Rattle.threaded_run.specs.Runs.{AreLines}
use Rattle.far_driver.specs.declared.fault.RunFault.{RunFault}
use Rattle.far_driver.specs.declared.fault.RunFault.TheVariants as fault
use Rattle.far_driver.specs.declared.status.ProgramFault.{ProgramFault}
use Rattle.far_driver.specs.declared.status.ProgramFault.TheVariants as program
use Rattle.far_driver.specs.Arguments.{AskFor}
use Rattle.far_driver.specs.Reading.{AreFiles, IsFaultOfOne}
use Rattle.far_driver.specs.Sources.{unread}

-- the readers gave these files, where they tell their bytes, and the writer got what one history replies to them
pub record RanOn (buckets limit : ℕ) (readers : List (Option (List ℕ))) (old new : Option (List ℕ)) : Type 0 where
  pub files : List (List Command)
  pub files_are : AreFiles readers files
  pub text : List ℕ
  pub ran : Ran (MayReply buckets limit) files text
  pub appends : Appends old new text

-- the readers gave these files, where they tell their bytes, and the writer got a line for each command
pub record WroteLines (readers : List (Option (List ℕ))) (old new : Option (List ℕ)) : Type 0 where
  pub files : List (List Command)
  pub files_are : AreFiles readers files
  pub text : List ℕ
  pub lines : AreLines files text
  pub appends : Appends old new text

-- the field of the settings that a run names as outside its limits
abbrev pub told_field : Result (Unit {0}) RunFault → Option ℕ
told_field (Err (fault.BadConfig n)) = Some n
told_field _ = None

-- a fault of a file is that of the first file that has one
abbrev pub FitsFiles : List (Option (List ℕ)) → RunFault → Type 0
FitsFiles readers (fault.BadLine number line) = IsFaultOfOne readers (fault.BadLine number line)
FitsFiles readers (fault.TooManyLines number) = IsFaultOfOne readers (fault.TooManyLines number)
FitsFiles readers (fault.Read number) = IsFaultOfOne readers (fault.Read number)
FitsFiles readers _ = ⊤

-- what the writer has after a fault: all lines before the contents where these can't be read, and what it had where nothing was written yet
abbrev pub WritesBefore : List (Option (List ℕ)) → Option (List ℕ) → Option (List ℕ) → RunFault → Type 0
WritesBefore readers old new fault.Write = ⊤
WritesBefore readers old new (fault.Contents r) = WroteLines readers old new
WritesBefore readers old new _ = Keeps old new

-- what the writer has after a fault of the program: what it had where nothing was written yet, and lines of as many files as the words name where the contents can't be read
abbrev pub LeavesOutput : List (List ℕ) → Option (List ℕ) → Option (List ℕ) → ProgramFault → Type 0
LeavesOutput words old new (program.Run fault.Write) = ⊤
LeavesOutput words old new (program.Run (fault.Contents r)) = (config : Config) × (readers : List (Option (List ℕ))) × AskFor words config (length readers) × WroteLines readers old new
LeavesOutput words old new _ = Keeps old new

-- the words are arguments, a table was opened with the settings that they ask for, and the writer got what one history replies to as many files as they name
pub record RanWords (words : List (List ℕ)) (old new : Option (List ℕ)) : Type 0 where
  pub config : Config
  pub files : List (List Command)
  pub asked : AskFor words config (length files)
  pub opened : WasOpened config
  pub text : List ℕ
  pub ran : Ran (MayReply config.buckets config.limit) files text
  pub appends : Appends old new text

-- The same of the files that were read: the words are arguments, a table was opened with the settings that they ask for, and the writer got what one history replies to as many files as they name. The files are those whose bytes the reads returned.
pub record AnswersFiles (words : List (List ℕ)) (old new : Option (List ℕ)) : Type 0 where
  pub config : Config
  pub count : ℕ
  pub asked : AskFor words config count
  pub opened : WasOpened config
  pub ran : RanOn config.buckets config.limit (unread count) old new
