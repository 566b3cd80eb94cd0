use Rattle.command_file.proofs.Unique.{one_meaning_of}
use Rattle.command_file.proofs.laws.one_meaning.Goals as goal

pub returns : goal.returns
returns c = one_meaning_of
