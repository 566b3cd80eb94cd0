use Rattle.std.proofs.Common.{arith}
use Rattle.commands.proofs.Rows.{named}
use Rattle.commands.proofs.name.Name.row.Goals as goal

pub returns : goal.returns
returns c = grind (arith, named c.args.self, c.index.ensures.is, c.row_of_entry.ensures)
