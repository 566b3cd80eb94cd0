use Rattle.std.proofs.Common.{sym, arith, subst, Bool}
use Rattle.swapper.specs.Evictors.{Tries}
use Rattle.swapper.proofs.Collecting.{retrying_none, retrying_more, retried_early}
use Rattle.swapper.proofs.evictor.Evictor.retry.Goals as goal

pub loop-k-init : goal.loop-k-init
loop-k-init g c = record { retrying = retrying_none c.args.self.now; count = c.kept_len-count.ensures }

pub loop-k-preserved : goal.loop-k-preserved
loop-k-preserved g c =
    let at = c.loop-k.invariant.count in
    let lt = c.loop-k-test.true in
    let few = c.kept_len-count.type_inv in
    let is = c.kept_len-count.ensures in record {
      retrying = retrying_more c.args.self.now c.loop-k.self c.draw_kept.new.self c.try_one.new.self c.in-Some.spare c.loop-k._k c.loop-k.all.reclaimed c.try_one.result.reclaimed c.and-all.result.reclaimed c.loop-k.all.failed c.and-all.result.failed
          (omega (arith, at, lt)) (omega (arith, at, lt, few, is)) c.loop-k.invariant.retrying c.in-Some.ensures
          (subst (λ (failed : Bool). Tries c.draw_kept.new.self c.try_one.new.self c.in-Some.spare c.loop-k.all.failed c.try_one.result.reclaimed failed) (sym c.and-all.ensures.failed) c.try_one.ensures) c.and-all.ensures.reclaimed;
      count = at;
    }

pub returns-in_default : goal.returns-in_default
returns-in_default g c =
    let at = c.loop-k.invariant.count in
    let lt = c.loop-k-test.true in
    retried_early c.args.self.now c.loop-k.self c.draw_kept.new.self c.loop-k._k c.loop-k.all.reclaimed c.loop-k.all.failed (omega (arith, at, lt)) c.loop-k.invariant.retrying c.in_default.ensures
