use Rattle.command_file.proofs.Unique.{one_command_of}
use Rattle.command_file.proofs.laws.one_command.Goals as goal

pub returns : goal.returns
returns c = one_command_of
