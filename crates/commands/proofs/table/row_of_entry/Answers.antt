use Rattle.commands.specs.Rows.{listed_names, name_at}
use Rattle.commands.proofs.table.row_of_entry.Goals as goal

pub returns : goal.returns
unfolding name_at listed_names
returns c = c.row_in.ensures
