use Rattle.std.proofs.Common.{arith}
use Rattle.commands.proofs.Rows.{entered}
use Rattle.commands.proofs.name.Name.text.Goals as goal

pub returns : goal.returns
returns c = grind (arith, entered c.args.self, c.index.ensures.is, c.text_of_entry.ensures)
