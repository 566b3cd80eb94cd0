use Rattle.std.proofs.Common.{subst, arith}
use Rattle.command_file.specs.declared.fault.FileFault.{FileFault}
use Rattle.command_file.specs.Files.{IsFileFault}
use Rattle.command_file.proofs.Joining.{bad_behind, bad_too_late, fault_behind}
use Rattle.command_file.proofs.side_by_side.raised.Goals as goal

pub returns-in-BadLine-clause-fault : goal.returns-in-BadLine-clause-fault
returns-in-BadLine-clause-fault c = λ before behind counted good bad.
    bad_behind before behind c.args.lines c.in-BadLine.number counted good (omega (arith, c.requires, c.if-number-lines.true)) (subst (λ (f : FileFault). IsFileFault behind f) c.in-BadLine.is bad)

pub returns-in-BadLine-2-clause-fault : goal.returns-in-BadLine-2-clause-fault
returns-in-BadLine-2-clause-fault c = λ before behind counted good bad.
    bad_too_late before behind c.args.lines c.in-BadLine.number counted good (omega (arith, c.requires, c.if-number-lines.false)) (subst (λ (f : FileFault). IsFileFault behind f) c.in-BadLine.is bad)

pub returns-in_default : goal.returns-in_default
returns-in_default c = record {
  fault = λ before behind counted good bad. fault_behind before behind c.args.fault c.in_default.not-BadLine good bad;
  number = λ number. number;
}
