use Rattle.std.proofs.Common.{List, ℕ}
use Rattle.command_file.specs.Files.{IsFileFault}
use Rattle.command_file.proofs.Texts.{known}
use Rattle.command_file.proofs.text.read_file.Goals as goal

pub returns-in-Err-clause-fault : goal.returns-in-Err-clause-fault
returns-in-Err-clause-fault g c =
    known (λ (all : List (List ℕ)). IsFileFault all c.in-Err.fault) (g.R.Read.remaining c.args.file.now) c.read.result.lines c.read.result.end c.read.ensures.lines c.in-Err.ensures.fault
