use Rattle.std.proofs.Common.{◌≡◌, sym, subst, ◌∙◌, refl, arith}
use Rattle.std.specs.Ordering.{nat_cmp, ordering_then}
use Rattle.std.specs.Cmp.Lexicographic.{slice_cmp}
use Rattle.far_object.specs.Encodings.{AreBytes}
use Rattle.far_object.specs.EncodingLaws.{bytes_drop}
use Rattle.far_object.proofs.Spelled.{spelled, front_decides, word_spelled, unequal_decide, equal_leave}
use Rattle.far_object.proofs.order.order.Goals as goal
use Rattle.far_object.proofs.order.order.Goals.{After-from_be_bytes-y}

pub loop-step-init : goal.loop-step-init
loop-step-init c = record { left_bytes = λ i. omega (arith, c.type_inv.own i); right_bytes = λ i. omega (arith, c.type_inv.other i); decides = refl }

-- the two numbers decide, and else what is left
words_decide : (c : After-from_be_bytes-y) → ordering_then (nat_cmp c.from_be_bytes-x.result c.from_be_bytes-y.result) (slice_cmp nat_cmp c.in-Some.left_rest.now c.in-Some-split_first_chunk.right_rest.now) ≡ slice_cmp nat_cmp c.args.own.now c.args.other.now
words_decide c =
    let left = c.in-Some.ensures.cases in
    let right = c.in-Some-split_first_chunk.ensures.cases in
    let xs = c.loop-step.left.now in
    let ys = c.loop-step.right.now in
    let x : c.from_be_bytes-x.result ≡ spelled xs 8 = word_spelled xs c.in-Some.front.now c.from_be_bytes-x.result left.0 c.from_be_bytes-x.ensures in
    let y : c.from_be_bytes-y.result ≡ spelled ys 8 = word_spelled ys c.in-Some-split_first_chunk.other_front.now c.from_be_bytes-y.result right.0 c.from_be_bytes-y.ensures in
    (λ i. ordering_then (nat_cmp (x i) (y i)) (slice_cmp nat_cmp (left.1 i) (right.1 i)))
    ∙ front_decides 8 xs ys (omega arith) (omega arith) c.loop-step.invariant.left_bytes c.loop-step.invariant.right_bytes
    ∙ c.loop-step.invariant.decides

pub returns-then-x-y : goal.returns-then-x-y
returns-then-x-y c = c.cmp.ensures ∙ unequal_decide c.from_be_bytes-x.result c.from_be_bytes-y.result _ c.if-x-y.true ∙ words_decide (goal.at.returns-then-x-y c).After-from_be_bytes-y

pub loop-step-preserved : goal.loop-step-preserved
loop-step-preserved c = record {
  left_bytes = subst AreBytes (sym c.in-Some.ensures.cases.1) (bytes_drop 8 c.loop-step.left.now c.loop-step.invariant.left_bytes);
  right_bytes = subst AreBytes (sym c.in-Some-split_first_chunk.ensures.cases.1) (bytes_drop 8 c.loop-step.right.now c.loop-step.invariant.right_bytes);
  decides = equal_leave c.from_be_bytes-x.result c.from_be_bytes-y.result _ c.if-x-y.false ∙ words_decide (goal.at.loop-step-preserved c).After-from_be_bytes-y;
}

pub returns : goal.returns
returns c = c.cmp-2.ensures ∙ c.loop-step.invariant.decides
