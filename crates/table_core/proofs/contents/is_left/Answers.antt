use Rattle.std.proofs.Common.{sym, ◌∙◌}
use Rattle.table_core.proofs.Changing.{left_by_new, left_by_same, left_by_none, left_by_cut}
use Rattle.table_core.proofs.contents.is_left.Goals as goal

pub returns-in-Gap : goal.returns-in-Gap
returns-in-Gap g c = λ so. left_by_new g.K.FarObject.enc c.args.pairs.now c.args.effect.now c.in-Puts.key c.in-Gap.field-0 c.in-Puts.value c.in-Puts.is (sym c.find.ensures.place ∙ c.in-Gap.is)

pub returns-in-Here : goal.returns-in-Here
returns-in-Here g c = λ so.
    left_by_same g.K.FarObject.enc c.args.pairs.now c.args.effect.now c.in-Puts.key c.in-Here.at c.in-Puts.value c.index-pairs-at.result c.is_same.result c.in-Puts.is (sym c.find.ensures.place ∙ c.in-Here.is) c.is_same.ensures

pub returns-in-Gap-find : goal.returns-in-Gap-find
returns-in-Gap-find g c = λ so. left_by_none g.K.FarObject.enc c.args.pairs.now c.args.effect.now c.in-Cuts.key c.in-Gap-find.field-0 c.in-Cuts.is (sym c.find-in-Cuts.ensures.place ∙ c.in-Gap-find.is) so

pub returns-in-Here-find : goal.returns-in-Here-find
returns-in-Here-find g c = λ so. left_by_cut g.K.FarObject.enc c.args.pairs.now c.args.effect.now c.in-Cuts.key c.in-Here-find.field-0 c.in-Cuts.is (sym c.find-in-Cuts.ensures.place ∙ c.in-Here-find.is) so
