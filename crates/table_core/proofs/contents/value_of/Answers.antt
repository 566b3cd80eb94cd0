use Rattle.std.proofs.Common.{ap, sym, ◌∙◌}
use Rattle.std.specs.Prelude.{Some}
use Rattle.table_core.proofs.Places.{gap_at, here_at}
use Rattle.table_core.proofs.contents.value_of.Goals as goal

pub returns-in-Gap : goal.returns-in-Gap
returns-in-Gap g c = λ so.
    let h = gap_at g.K.FarObject.enc c.args.key.now c.in-Gap.field-0 c.args.pairs.now (sym c.find.ensures.place ∙ c.in-Gap.is) in
    sym (h.none_is so)

pub returns-in-Here : goal.returns-in-Here
returns-in-Here g c = λ so.
    let h = here_at g.K.FarObject.enc c.args.key.now c.in-Here.at c.args.pairs.now (sym c.find.ensures.place ∙ c.in-Here.is) in
    ap (λ (p : g.row.K.Denot × g.row.V.Denot). Some p.1) (h.pair_is c.index-pairs-at.result) ∙ sym h.found_is
