use Rattle.std.proofs.Common.{sym, ◌∙◌}
use Rattle.table_core.proofs.Changing.{put_in_gap, put_here, cut_in_gap, cut_here}
use Rattle.table_core.proofs.contents.is_changed.Goals as goal

pub returns-in-Gap : goal.returns-in-Gap
returns-in-Gap g c = λ so.
    put_in_gap g.K.FarObject.enc c.args.new.now c.args.old.now c.args.effect.now c.in-Puts.key c.in-Gap.at c.is_spliced.result c.in-Puts.value c.in-Puts.is (sym c.find.ensures.place ∙ c.in-Gap.is) c.is_spliced.ensures

pub returns-in-Here : goal.returns-in-Here
returns-in-Here g c = λ so.
    put_here g.K.FarObject.enc c.args.new.now c.args.old.now c.args.effect.now c.in-Puts.key c.in-Here.at c.is_spliced-in-Here.result c.in-Puts.value c.index-old-at.result c.in-Puts.is (sym c.find.ensures.place ∙ c.in-Here.is)
    c.is_spliced-in-Here.ensures

pub returns-in-Gap-find : goal.returns-in-Gap-find
returns-in-Gap-find g c = λ so.
    cut_in_gap g.K.FarObject.enc c.args.new.now c.args.old.now c.args.effect.now c.in-Cuts.key c.in-Gap-find.field-0 c.are_same-in-Gap-find.result c.in-Cuts.is (sym c.find-in-Cuts.ensures.place ∙ c.in-Gap-find.is) so
    c.are_same-in-Gap-find.ensures

pub returns-in-Here-find : goal.returns-in-Here-find
returns-in-Here-find g c = λ so.
    cut_here g.K.FarObject.enc c.args.new.now c.args.old.now c.args.effect.now c.in-Cuts.key c.in-Here-find.at c.is_joined.result c.in-Cuts.is (sym c.find-in-Cuts.ensures.place ∙ c.in-Here-find.is) so c.is_joined.ensures
