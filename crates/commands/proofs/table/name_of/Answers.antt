use Rattle.std.proofs.Common.{arith}
use Rattle.commands.specs.Names.{index_of}
use Rattle.commands.proofs.Rows.{counted, entered, texted}
use Rattle.commands.proofs.table.name_of.Goals as goal

pub returns-then-eq_ignore_ascii_case : goal.returns-then-eq_ignore_ascii_case
returns-then-eq_ignore_ascii_case c = grind (arith, texted c.loop-index.index c.loop-index-test.true, c.if-eq_ignore_ascii_case.ensures.test, c.as_bytes.ensures.value, c.text_of_entry.ensures, c.row_of_entry.ensures)

pub loop-index-preserved : goal.loop-index-preserved
loop-index-preserved c = λ i below same. grind (arith, below, same, c.loop-index.invariant i, texted c.loop-index.index c.loop-index-test.true, c.if-eq_ignore_ascii_case.ensures.test, c.if-eq_ignore_ascii_case.false, c.as_bytes.ensures.value, c.text_of_entry.ensures)

pub returns : goal.returns
returns c = λ x same. c.loop-index.invariant (index_of x) (grind (arith, counted x, c.loop-index-test.false, c.loop-index.auto.index-end)) (grind (arith, same, entered x))
