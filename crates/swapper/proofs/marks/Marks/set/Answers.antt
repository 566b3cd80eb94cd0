use Rattle.std.proofs.Common.{arith, ◌∙◌, ap, length, ◌<◌, ◌/◌, set, true}
use Rattle.std.proofs.lemmas.Grind.{get_or_default_zero}
use Rattle.swapper.proofs.Bits.{word_within, marks_length, set_marks}
use Rattle.swapper.proofs.marks.Marks.set.Goals as goal

pub index_mut-requires : goal.index_mut-requires
index_mut-requires c =
    let n = ap length c.self.view_is in
    let few = c.self.invariant in
    let lt = c.requires in
    word_within _ c.self.inside.count c.args.frame few (omega (arith, n, lt, marks_length c.self.inside.words.items c.self.inside.count))

pub returns : goal.returns
returns c =
    let n = ap length c.self.view_is in
    let few = c.self.invariant in
    let lt = c.requires in
    let len = c.self.inside.words.ok.0 in
    let below : c.args.frame < c.self.inside.count = omega (arith, n, lt, marks_length c.self.inside.words.items c.self.inside.count) in
    let within = word_within _ c.self.inside.count c.args.frame few below in
    let word = c.index_mut.ensures.value ∙ get_or_default_zero c.self.inside.words.items (c.args.frame / 64) c.index_mut.result.now (omega (arith, within, len)) in
    set_marks c.self.inside.words.items c.self.inside.count c.args.frame c.index_mut.result.now (omega (arith, few, len)) below word ∙ ap (λ l. set l c.args.frame true) c.self.view_is
