use Rattle.commands.specs.Rows.{text_at}
use Rattle.commands.proofs.table.text_of_entry.Goals as goal

pub returns : goal.returns
unfolding text_at
returns c = c.text_in.ensures
