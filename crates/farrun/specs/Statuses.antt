-- The statuses of the program's faults.
use Rattle.std.specs.Prelude.{ℕ}
use Rattle.far_driver.specs.Statuses.{status_of as program_status}
use Rattle.file_device.specs.declared.folders.FolderFault.TheVariants as folder
use Rattle.farrun.specs.declared.fault.FarrunFault.{FarrunFault}
use Rattle.farrun.specs.declared.fault.FarrunFault.TheVariants as fault

-- wrong words, folders and pipes end with 2, and all else as it does without folders
abbrev pub status_of : FarrunFault → ℕ
status_of fault.Usage = 2
status_of (fault.Folder (folder.CannotOpen number)) = 2
status_of (fault.Folder folder.Memory) = 1
status_of (fault.Store number kind) = 2
status_of (fault.Program f) = program_status f
