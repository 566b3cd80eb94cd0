use Rattle.std.proofs.Common.{List, ℕ}
use Rattle.command_file.specs.Files.{IsFile, IsFileFault}
use Rattle.command_file.proofs.Texts.{known}
use Rattle.far_driver.proofs.input_files.read_last.Goals as goal

pub returns-in-Ok-clause-said : goal.returns-in-Ok-clause-said
returns-in-Ok-clause-said g c =
    known (λ (all : List (List ℕ)). IsFile all c.in-Ok.script) (g.B.Read.remaining c.args.file) c.read_text-text.result.lines c.read_text-text.result.end c.read_text-text.ensures c.in-Ok.ensures.said

pub returns-in-Err-clause-fault : goal.returns-in-Err-clause-fault
returns-in-Err-clause-fault g c =
    known (λ (all : List (List ℕ)). IsFileFault all c.in-Err.fault) (g.B.Read.remaining c.args.file) c.read_text-text.result.lines c.read_text-text.result.end c.read_text-text.ensures c.in-Err.ensures.fault
