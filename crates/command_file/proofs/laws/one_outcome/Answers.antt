use Rattle.command_file.proofs.Unique.{one_outcome_of}
use Rattle.command_file.proofs.laws.one_outcome.Goals as goal

pub returns : goal.returns
returns c = one_outcome_of
