use Rattle.std.proofs.Common.{◌≡◌, length, refl, ap, sym, ◌∙◌, arith}
use Rattle.std.specs.declared.cmp.Ordering.TheVariants.{Less, Equal, Greater}
use Rattle.table_core.specs.declared.contents.Place.TheVariants.{Gap}
use Rattle.table_core.proofs.Places.{from_step, from_end}
use Rattle.table_core.proofs.contents.find.Goals as goal

pub loop-at-init : goal.loop-at-init
loop-at-init g c = refl

pub returns-in-Less-clause-place : goal.returns-in-Less-clause-place
returns-in-Less-clause-place g c =
    let e = c.index-pairs-at.result in
    sym (from_step g.K.FarObject.enc c.args.key.now c.args.pairs.now c.loop-at.at e Less c.loop-at-test.true c.index-pairs-at.is c.loop-at.invariant (sym c.in-Less.is ∙ c.compare.ensures))

pub returns-in-Equal-clause-place : goal.returns-in-Equal-clause-place
returns-in-Equal-clause-place g c =
    let e = c.index-pairs-at.result in
    sym (from_step g.K.FarObject.enc c.args.key.now c.args.pairs.now c.loop-at.at e Equal c.loop-at-test.true c.index-pairs-at.is c.loop-at.invariant (sym c.in-Equal.is ∙ c.compare.ensures))

pub loop-at-preserved : goal.loop-at-preserved
loop-at-preserved g c =
    let e = c.index-pairs-at.result in
    from_step g.K.FarObject.enc c.args.key.now c.args.pairs.now c.loop-at.at e Greater c.loop-at-test.true c.index-pairs-at.is c.loop-at.invariant (sym c.in-Greater.is ∙ c.compare.ensures)

pub returns-clause-place : goal.returns-clause-place
returns-clause-place g c =
    let over = c.loop-at-test.false in
    let at : c.loop-at.at ≡ length c.args.pairs.now = omega arith in
    sym (from_end g.K.FarObject.enc c.args.key.now c.args.pairs.now c.loop-at.at over c.loop-at.invariant ∙ ap (λ n. Gap n) at)
