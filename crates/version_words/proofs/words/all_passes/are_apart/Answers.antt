use Rattle.std.proofs.Common.{◌≡◌, ◌-◌, ◌<◌, ℕ, length, slice_index_or, Option, Some, None, ap, subst, ◌∙◌, arith}
use Rattle.std.proofs.lemmas.List.{length-set}
use Rattle.version_words.proofs.Gathering.{AreListed, number_is, value_at, listed_more, listed_apart}
use Rattle.version_words.proofs.words.all_passes.are_apart.Goals as goal

pub differ_at-requires-clause-order : goal.differ_at-requires-clause-order
differ_at-requires-clause-order g c =
    let h = c.index-holders-k.result in
    let at : (d : g.row.H.Denot) → (g.H.PassHolder.pass_of (slice_index_or c.args.holders.now c.loop-k.k d)).number ≡ c.number.result =
    number_is g.H.PassHolder.pass_of c.args.holders.now c.loop-k.k h c.pass.result.now c.number.result (omega arith) (rw c.loop-k.invariant.same at c.pass.ensures) c.number.ensures.number in
    let numbered = c.requires.numbered c.loop-k.k h (omega arith) in
    let within : (c.number.result - 1) < length c.loop-k.holder_of.items = omega (arith, c.loop-k.invariant.room, numbered.0, numbered.1, at h) in
    let found = c.loop-k.invariant.listed.found (c.number.result - 1) c.in-Some.other h (value_at c.loop-k.holder_of.items (c.number.result - 1) c.index.result.now (Some c.in-Some.other) c.index.ensures within c.in-Some.is) in
    found.0

pub loop-k-preserved : goal.loop-k-preserved
loop-k-preserved g c =
    let h = c.index-holders-k.result in
    let same = c.loop-k.invariant.same in
    let at : (d : g.row.H.Denot) → (g.H.PassHolder.pass_of (slice_index_or c.loop-k.holders c.loop-k.k d)).number ≡ c.number.result =
    number_is g.H.PassHolder.pass_of c.loop-k.holders c.loop-k.k h c.pass.result.now c.number.result (omega arith) c.pass.ensures c.number.ensures.number in
    let numbered = rw (← same) at (c.requires.numbered c.loop-k.k h (omega arith)) in
    let within : (c.number.result - 1) < length c.loop-k.holder_of.items = omega (arith, c.loop-k.invariant.room, numbered.0, numbered.1, at h) in
    record {
      same = same;
      room = length-set c.loop-k.holder_of.items (c.number.result - 1) (Some c.loop-k.k) ∙ c.loop-k.invariant.room;
      listed = listed_more g.H.PassHolder.pass_of c.loop-k.holder_of.items c.loop-k.holders c.loop-k.k c.number.result c.loop-k.invariant.listed (omega (arith, numbered.0, at h)) within at
          (λ j d lt. let one = rw (← same) at (c.requires.numbered j d (omega (arith, lt))) in one.0)
          (value_at c.loop-k.holder_of.items (c.number.result - 1) c.index.result.now None c.index.ensures within c.in_default.is);
    }

pub returns-clause-apart : goal.returns-clause-apart
returns-clause-apart g c =
    let n : c.loop-k.k ≡ length c.args.holders.now = omega arith in
    listed_apart g.H.PassHolder.pass_of c.loop-k.holder_of.items c.args.holders.now (rw n at (rw c.loop-k.invariant.same at c.loop-k.invariant.listed))
