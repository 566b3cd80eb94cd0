-- The faults of the program, and their statuses.
use Rattle.std.specs.Prelude.{◌≡◌, ℕ, ⊤}
use Rattle.far_driver.specs.declared.fault.RunFault.{RunFault}
use Rattle.far_driver.specs.declared.fault.RunFault.TheVariants as fault
use Rattle.far_driver.specs.declared.status.ProgramFault.{ProgramFault}
use Rattle.far_driver.specs.declared.status.ProgramFault.TheVariants as program

-- words cannot be had where one is no text, and for want of memory
abbrev pub IsOfWords : ProgramFault → Type 0
IsOfWords program.Usage = ⊤
IsOfWords (program.Run f) = f ≡ fault.Memory
IsOfWords _ = ⊥

-- wrong arguments, settings and commands end with 2, and what the system refused with 1
abbrev pub run_status : RunFault → ℕ
run_status (fault.BadConfig n) = 2
run_status (fault.BadLine file line) = 2
run_status (fault.TooManyLines file) = 2
run_status (fault.Read file) = 1
run_status fault.Memory = 1
run_status fault.Device = 1
run_status fault.Passes = 1
run_status fault.Gate = 1
run_status fault.Write = 1
run_status (fault.Contents r) = 1

abbrev pub status_of : ProgramFault → ℕ
status_of program.Usage = 2
status_of (program.CannotOpen file) = 1
status_of (program.Run f) = run_status f

-- what the words ask for ended with this fault. It is opaque: only `run_words` tells it, and the lemma below is for its proof alone
pub EndedWith : ProgramFault → Type 0
EndedWith fault = Unit {0}

pub ended_with : (fault : ProgramFault) → EndedWith fault
unfolding EndedWith
ended_with fault = tt
