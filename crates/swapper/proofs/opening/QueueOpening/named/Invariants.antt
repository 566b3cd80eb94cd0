use Rattle.std.proofs.Common.{◌≡◌, ◌==◌, [], true, vec_len, All}
use Rattle.swapper.specs.Seats.{seat_view, IsNew}
use Rattle.swapper.proofs.opening.QueueOpening.named.Given as goal

abbrev pub invariant-loop : goal.invariant-loop
invariant-loop g l = record {
  count : vec_len l.others ≡ l.counter;
  taker : l.taker ≡ seat_view [] 0 (l.counter == 0) true;
  others : All IsNew l.others.items;
}
