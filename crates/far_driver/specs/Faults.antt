-- The faults of a run, from those of its parts.
use Rattle.std.specs.Prelude.{ℕ}
use Rattle.command_file.specs.declared.fault.FileFault.{FileFault}
use Rattle.command_file.specs.declared.fault.FileFault.TheVariants as file
use Rattle.threaded_run.specs.declared.fault.ThreadedFault.{ThreadedFault}
use Rattle.threaded_run.specs.declared.fault.ThreadedFault.TheVariants as threads
use Rattle.far_driver.specs.declared.fault.RunFault.{RunFault}
use Rattle.far_driver.specs.declared.fault.RunFault.TheVariants as fault

abbrev pub of_file : ℕ → FileFault → RunFault
of_file number (file.BadLine line) = fault.BadLine number line
of_file number file.TooManyLines = fault.TooManyLines number
of_file number file.Read = fault.Read number
of_file number file.Memory = fault.Memory

abbrev pub of_threads : ThreadedFault → RunFault
of_threads threads.Memory = fault.Memory
of_threads threads.Device = fault.Device
of_threads threads.Passes = fault.Passes
of_threads threads.Gate = fault.Gate
of_threads threads.Write = fault.Write
of_threads (threads.Contents refusal) = fault.Contents refusal
