use Rattle.command_file.proofs.Written.{written_is_said_of}
use Rattle.command_file.proofs.laws.written_is_said.Goals as goal

pub returns : goal.returns
returns c = written_is_said_of
