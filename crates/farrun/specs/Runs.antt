-- What a run leaves.
use Rattle.std.specs.Prelude.{ℕ, List, Option}
use Rattle.std.specs.Io.KnownBytes.{Keeps}
use Rattle.hash_table.specs.declared.config.Config.{Config}
use Rattle.hash_table.specs.Openings.{WasOpened}
use Rattle.far_driver.specs.Arguments.{AskFor}
use Rattle.far_driver.specs.Runs.{LeavesOutput as ProgramLeaves}
use Rattle.farrun.specs.declared.fault.FarrunFault.{FarrunFault}
use Rattle.farrun.specs.declared.fault.FarrunFault.TheVariants as fault

-- a table was opened with the settings that the words ask for
abbrev pub WasOpenedFor : List (List ℕ) → Type 0
WasOpenedFor words = (config : Config) × (count : ℕ) × AskFor words config count × WasOpened config

-- what the writer has after a fault: what it had where words, a folder or a pipe are wrong, and else what it has without them
abbrev pub LeavesOutput : List (List ℕ) → Option (List ℕ) → Option (List ℕ) → FarrunFault → Type 0
LeavesOutput words old new fault.Usage = Keeps old new
LeavesOutput words old new (fault.Folder f) = Keeps old new
LeavesOutput words old new (fault.Store number kind) = Keeps old new
LeavesOutput words old new (fault.Program f) = ProgramLeaves words old new f
