use Rattle.std.proofs.Common.{◌≡◌}
use Rattle.std.specs.Ordering.{nat_cmp}
use Rattle.std.specs.Cmp.Lexicographic.{slice_cmp}
use Rattle.far_object.specs.Encodings.{AreBytes}
use Rattle.far_object.proofs.order.order.Given as goal

abbrev pub invariant-loop-step : goal.invariant-loop-step
invariant-loop-step l = record {
  left_bytes : AreBytes l.left;
  right_bytes : AreBytes l.right;
  decides : slice_cmp nat_cmp l.left l.right ≡ slice_cmp nat_cmp l.own l.other;
}
