use Rattle.std.proofs.Common.{arith, ◌∙◌, ap, length, ◌<◌, ◌/◌, get_or, false}
use Rattle.std.proofs.lemmas.Grind.{get_or_default_zero}
use Rattle.swapper.proofs.Bits.{word_within, marks_length, mark_tells}
use Rattle.swapper.proofs.marks.Marks.is_marked.Goals as goal

pub index-requires : goal.index-requires
index-requires c =
    let n = ap length c.self.view_is in
    let few = c.self.invariant in
    let lt = c.requires in
    word_within _ c.self.inside.count c.args.frame few (omega (arith, n, lt, marks_length c.self.inside.words.items c.self.inside.count))

pub returns : goal.returns
returns c =
    let n = ap length c.self.view_is in
    let few = c.self.invariant in
    let lt = c.requires in
    let len = c.self.inside.words.ok.0 in
    let below : c.args.frame < c.self.inside.count = omega (arith, n, lt, marks_length c.self.inside.words.items c.self.inside.count) in
    let within = word_within _ c.self.inside.count c.args.frame few below in
    let e = c.index.ensures in
    let word = e ∙ get_or_default_zero c.self.inside.words.items (c.args.frame / 64) c.index.result.now (omega (arith, within, len)) in
    mark_tells c.self.inside.words.items c.self.inside.count c.args.frame c.index.result.now (omega (arith, few, len)) below word ∙ ap (λ l. get_or l c.args.frame false) c.self.view_is
