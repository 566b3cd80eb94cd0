use Rattle.std.proofs.Common.{length, ap, ◌∙◌, refl}
use Rattle.plain_run.proofs.Sizes.{full}
use Rattle.plain_run.proofs.table.PlainTable.with.Goals as goal

pub returns-then-count-ge-MOST_PAIRS : goal.returns-then-count-ge-MOST_PAIRS
returns-then-count-ge-MOST_PAIRS c =
    (refl, full c.args.self.now.limit c.count.result _ c.args.key.now c.args.value.now c.requires.limited (c.count.ensures ∙ ap length c.stored-object.ensures) c.if-count-ge-MOST_PAIRS.true)
