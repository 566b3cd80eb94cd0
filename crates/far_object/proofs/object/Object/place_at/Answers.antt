use Rattle.std.proofs.Common.{ap, sym, ◌∙◌}
use Rattle.far_object.proofs.Spots.{gap_split}
use Rattle.far_object.proofs.Finding.{place_in, place_is, value_stands}
use Rattle.far_object.proofs.object.Object.place_at.Goals as goal

pub returns-in-Gap-clause-place : goal.returns-in-Gap-clause-place
returns-in-Gap-clause-place g c =
    ap place_in (sym c.in-Gap.is ∙ c.requires.located) ∙ place_is g.K.FarObject.enc g.V.FarObject.enc c.args.key.now 4 c.args.self.now c.as_bytes-bytes.ensures.map.rising

pub returns-in-Gap-clause-value : goal.returns-in-Gap-clause-value
returns-in-Gap-clause-value g c =
    let h = gap_split g.K.FarObject.enc g.V.FarObject.enc c.args.key.now 4 c.in-Gap.field-0 c.args.self.now (sym (sym c.in-Gap.is ∙ c.requires.located)) in
    h.between.none_is c.as_bytes-bytes.ensures.map.rising

pub returns-in-Here-clause-place : goal.returns-in-Here-clause-place
returns-in-Here-clause-place g c =
    ap place_in (sym c.in-Here.is ∙ c.requires.located) ∙ place_is g.K.FarObject.enc g.V.FarObject.enc c.args.key.now 4 c.args.self.now c.as_bytes-bytes.ensures.map.rising

pub returns-in-Here-clause-value : goal.returns-in-Here-clause-value
returns-in-Here-clause-value g c =
    value_stands g.K.FarObject.enc g.V.FarObject.enc c.args.key.now c.in-Here.field-0 c.in-Here.start c.in-Here.end c.args.self.now (sym (sym c.in-Here.is ∙ c.requires.located))
