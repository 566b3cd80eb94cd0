use Rattle.std.proofs.Common.{◌≡◌, ◌∙◌, ◌<◌, [], length, subst, arith}
use Rattle.hash_table.proofs.Ends.{back_trans, closed_none_in_order, closed_in_order}
use Rattle.hash_table.specs.Closes.{IsCloseFault}
use Rattle.hash_table.proofs.Takers.{hands_map}
use Rattle.hash_table.proofs.table.FarTable.close_callers_through.Goals as goal

pub returns-then-callers-eq0-clause-closed : goal.returns-then-callers-eq0-clause-closed
returns-then-callers-eq0-clause-closed g c =
    let back = c.gather.ensures.back in
    let none : length c.args.callers.now ≡ 0 = omega (arith, c.if-callers-eq0.true, back.count) in
    ([], g.met.T.TakesPairs.takes_none c.args.taker.now, closed_none_in_order g.K.FarObject.enc g.V.FarObject.enc g.J.Naming.limits c.args.callers.now c.in-Ok.mark c.same_history.ensures none c.in-Ok.ensures.front)

pub returns-in-Err-hand_by_first-clause-fault : goal.returns-in-Err-hand_by_first-clause-fault
returns-in-Err-hand_by_first-clause-fault g c = c.in-Err-hand_by_first.ensures.fault (length c.args.callers.now)

pub returns-in-Err-hand_by_first-clause-back : goal.returns-in-Err-hand_by_first-clause-back
returns-in-Err-hand_by_first-clause-back g c =
    let olds = c.args.callers.now in
    let mids = c.gather.new.callers in
    let reads = c.hand_by_first.new.callers in
    back_trans g.K.FarObject.enc g.V.FarObject.enc g.J.Naming.limits olds mids reads c.gather.ensures.back c.hand_by_first.ensures.back

pub returns-in-Ok-gather-clause-back : goal.returns-in-Ok-gather-clause-back
returns-in-Ok-gather-clause-back g c =
    let ek = g.K.FarObject.enc in
    let ev = g.V.FarObject.enc in
    let l = g.J.Naming.limits in
    let olds = c.args.callers.now in
    let mids = c.gather.new.callers in
    let reads = c.hand_by_first.new.callers in
    let news = c.gather-2.new.callers in
    back_trans ek ev l olds mids news c.gather.ensures.back (back_trans ek ev l mids reads news c.hand_by_first.ensures.back c.gather-2.ensures.back)

pub returns-clause-back : goal.returns-clause-back
returns-clause-back g c =
    let ek = g.K.FarObject.enc in
    let ev = g.V.FarObject.enc in
    let l = g.J.Naming.limits in
    let olds = c.args.callers.now in
    let mids = c.gather.new.callers in
    let reads = c.hand_by_first.new.callers in
    let news = c.gather-2.new.callers in
    back_trans ek ev l olds mids news c.gather.ensures.back (back_trans ek ev l mids reads news c.hand_by_first.ensures.back c.gather-2.ensures.back)

pub returns-in-Ok-gather-clause-closed : goal.returns-in-Ok-gather-clause-closed
returns-in-Ok-gather-clause-closed g c =
    let ek = g.K.FarObject.enc in
    let ev = g.V.FarObject.enc in
    let l = g.J.Naming.limits in
    let olds = c.args.callers.now in
    let mids = c.gather.new.callers in
    let reads = c.hand_by_first.new.callers in
    let back = c.gather.ensures.back in
    let some : 0 < length olds = omega (arith, c.if-callers-eq0.false, back.count) in
    let b = c.buckets-buckets.ensures in
    hands_map g.T.TakesPairs.takes _ _ c.args.taker.now c.hand_by_first.new.taker
    (λ pairs are. closed_in_order ek ev l olds mids reads c.in-Ok.mark c.in-Ok-gather.field-0 pairs c.in-Ok.ensures.front back c.in-Ok.ensures.told c.hand_by_first.ensures.back c.in-Ok-gather.ensures.front some are c.same_history.ensures c.buckets_make_map.ensures (omega (arith, b.count, b.some)))
    c.in-Ok-hand_by_first.ensures.pairs

pub returns-clause-fault : goal.returns-clause-fault
returns-clause-fault g c =
    let many : length c.hand_by_first.new.callers ≡ length c.args.callers.now = c.hand_by_first.ensures.back.count ∙ c.gather.ensures.back.count in
    let h = c.in-Ok-hand_by_first.ensures.pairs in
    (subst (λ n. IsCloseFault g.K.FarObject.enc g.V.FarObject.enc g.J.Naming.limits n c.in-Err-gather.fault) many c.in-Err-gather.ensures.fault, (h.0, h.1, tt))

pub returns-in-Err-clause-fault : goal.returns-in-Err-clause-fault
returns-in-Err-clause-fault g c = (c.in-Err.ensures.fault, ([], g.met.T.TakesPairs.takes_none c.args.taker.now, tt))
