use Rattle.std.proofs.Common.{◌<◌, ◌≤◌, refl, arith}
use Rattle.std.proofs.lemmas.Result.{err_from_is_err_and}
use Rattle.table_core.specs.Machines.{buckets_of}
use Rattle.table_core.specs.declared.event.Event.TheVariants.{Moved}
use Rattle.table_core.proofs.Comparing.{same_test}
use Rattle.table_core.proofs.Judging.{unfit, outside, move_ok, move_err, move_place_err}
use Rattle.table_core.proofs.machine.Machine.judge_move.Goals as goal
use Rattle.table_core.proofs.machine.Machine.judge_move.Goals.{else-are_same-via-then-are_same+else-is_placed, else-are_same-via-else-are_same}

pub returns-then-buckets-bucket-clause-err : goal.returns-then-buckets-bucket-clause-err
returns-then-buckets-bucket-clause-err g c = λ log s.
    let h : buckets_of c.args.self.now ≤ c.args.bucket = omega (arith, c.buckets.ensures.is) in
    outside g.K.FarObject.enc g.V.FarObject.enc c.args.self.now log s c.args.bucket c.args.word h

pub returns-in_err-new-clause-err : goal.returns-in_err-new-clause-err
returns-in_err-new-clause-err g c =
    let h : c.args.bucket < buckets_of c.args.self.now = omega (arith, c.buckets.ensures.is) in
    let p = err_from_is_err_and c.from_residual.result c.from_residual.ensures.1 in
    rw (p.1, p.2)
    (λ log s. unfit g.K.FarObject.enc g.V.FarObject.enc c.args.self.now log s (Moved c.args.bucket c.args.word) c.args.bucket c.args.word refl h c.in_err-new.field-0.0 tt tt c.in_err-new.ensures.err)

pub returns-then-is_placed-clause-ok : goal.returns-then-is_placed-clause-ok
returns-then-is_placed-clause-ok g c = λ log s.
    let h : c.args.bucket < buckets_of c.args.self.now = omega (arith, c.buckets.ensures.is) in
    move_ok g.K.FarObject.enc g.V.FarObject.enc c.args.self.now log s c.args.bucket c.args.word h c.in_ok-new.new.now c.in_ok-new.ensures.ok c.are_same.result c.is_placed.result
    (same_test c.are_same.result _ _ _ c.standing.ensures c.are_same.ensures) c.if-are_same.true c.is_placed.ensures c.if-is_placed.true

pub returns-else-are_same-clause-err : goal.returns-else-are_same-clause-err
returns-else-are_same-clause-err g c = λ log s.
    let h : c.args.bucket < buckets_of c.args.self.now = omega (arith, c.buckets.ensures.is) in
    elim c.else-are_same.branch [
      | else-are_same-via-then-are_same+else-is_placed w ↦
          move_place_err g.K.FarObject.enc g.V.FarObject.enc c.args.self.now log s c.args.bucket c.args.word h c.in_ok-new.new.now c.in_ok-new.ensures.ok w.is_placed.result w.is_placed.ensures w.if-is_placed.false
      | else-are_same-via-else-are_same w ↦
          move_err g.K.FarObject.enc g.V.FarObject.enc c.args.self.now log s c.args.bucket c.args.word h c.in_ok-new.new.now c.in_ok-new.ensures.ok c.are_same.result
          (same_test c.are_same.result _ _ _ c.standing.ensures c.are_same.ensures) w.if-are_same.false
    ]
