-- The folders in which devices are opened.
use Rattle.std.specs.Prelude.{◌<◌, ◌≤◌, ℕ, ⊤}
use Rattle.file_device.specs.declared.folders.FolderFault.{FolderFault}
use Rattle.file_device.specs.declared.folders.FolderFault.TheVariants as fault

-- it names one of so many folders, which are counted from 1, or is want of memory
abbrev pub IsOfFolders : ℕ → FolderFault → Type 0
IsOfFolders count fault.Memory = ⊤
IsOfFolders count (fault.CannotOpen number) = (0 < number) × (number ≤ count)
