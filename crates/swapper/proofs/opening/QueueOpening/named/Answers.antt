use Rattle.std.proofs.Common.{◌∙◌, ◌==◌, [], true, ap, arith}
use Rattle.swapper.specs.Seats.{seat_view, IsNew}
use Rattle.swapper.proofs.Seating.{all_none, all_push, seated_taker, seated_other}
use Rattle.swapper.proofs.opening.QueueOpening.named.Goals as goal

pub loop-init : goal.loop-init
loop-init g c = record {
  count = c.in-Ok.ensures.len;
  taker = c.begun-queue.ensures.seat;
  others = all_none IsNew _ c.in-Ok.ensures.items;
}

pub loop-preserved : goal.loop-preserved
loop-preserved g c =
    let i = c.loop.invariant in
    let a = c.another.ensures in
    let count = i.count in
    let len = c.in-Ok-push.ensures.len in record {
      count = omega (arith, count, len);
      taker = seated_taker c.loop.taker c.another.new.seat c.loop.counter i.taker a.seat;
      others = all_push IsNew c.loop.others.items c.push.new.self.items c.another.result c.in-Ok-push.ensures.items i.others (seated_other c.loop.taker c.another.result c.loop.counter i.taker a.other);
    }

pub returns-clause-taker : goal.returns-clause-taker
returns-clause-taker g c =
    let past = c.loop-test.false in
    let end = c.loop.auto.counter-end in
    c.loop.invariant.taker ∙ ap (λ n. seat_view [] 0 (n == 0) true) (omega (arith, past, end))
