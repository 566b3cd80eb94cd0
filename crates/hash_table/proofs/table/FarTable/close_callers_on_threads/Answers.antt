use Rattle.std.proofs.Common.{◌≡◌, ◌<◌, List, length, sym, subst, arith}
use Rattle.far_pairs.specs.Bundles.{all_of}
use Rattle.hash_table.specs.Closes.{ClosesSorted}
use Rattle.hash_table.proofs.Ends.{back_trans, closed_none, closed}
use Rattle.hash_table.proofs.table.FarTable.close_callers_on_threads.Goals as goal

pub returns-then-callers-eq0-clause-closed : goal.returns-then-callers-eq0-clause-closed
returns-then-callers-eq0-clause-closed g c =
    let back = c.gather.ensures.back in
    let none : length c.args.callers.now ≡ 0 = omega (arith, c.if-callers-eq0.true, back.count) in
    subst (λ (z : List (List (g.row.K.Denot × g.row.V.Denot))). ClosesSorted g.K.FarObject.enc g.V.FarObject.enc g.J.Naming.limits c.args.callers.now (all_of z)) (sym c.new.ensures.items) (closed_none g.K.FarObject.enc g.V.FarObject.enc g.J.Naming.limits c.args.callers.now c.in-Ok.mark c.same_history.ensures none c.in-Ok.ensures.front)

pub returns-in-Err-read_parts-clause-fault : goal.returns-in-Err-read_parts-clause-fault
returns-in-Err-read_parts-clause-fault g c = c.unread.ensures (length c.args.callers.now)

pub returns-in-Err-read_parts-clause-back : goal.returns-in-Err-read_parts-clause-back
returns-in-Err-read_parts-clause-back g c =
    let ek = g.K.FarObject.enc in
    let ev = g.V.FarObject.enc in
    let l = g.J.Naming.limits in
    let olds = c.args.callers.now in
    let mids = c.gather.new.callers in
    let reads = c.read_parts.new.callers in
    back_trans ek ev l olds mids reads c.gather.ensures.back c.read_parts.ensures.back

pub returns-in-Ok-gather-clause-back : goal.returns-in-Ok-gather-clause-back
returns-in-Ok-gather-clause-back g c =
    let ek = g.K.FarObject.enc in
    let ev = g.V.FarObject.enc in
    let l = g.J.Naming.limits in
    let olds = c.args.callers.now in
    let mids = c.gather.new.callers in
    let reads = c.read_parts.new.callers in
    let news = c.gather-2.new.callers in
    back_trans ek ev l olds mids news c.gather.ensures.back (back_trans ek ev l mids reads news c.read_parts.ensures.back c.gather-2.ensures.back)

pub returns-clause-back : goal.returns-clause-back
returns-clause-back g c =
    let ek = g.K.FarObject.enc in
    let ev = g.V.FarObject.enc in
    let l = g.J.Naming.limits in
    let olds = c.args.callers.now in
    let mids = c.gather.new.callers in
    let reads = c.read_parts.new.callers in
    let news = c.gather-2.new.callers in
    back_trans ek ev l olds mids news c.gather.ensures.back (back_trans ek ev l mids reads news c.read_parts.ensures.back c.gather-2.ensures.back)

pub returns-in-Ok-gather-clause-closed : goal.returns-in-Ok-gather-clause-closed
returns-in-Ok-gather-clause-closed g c =
    let ek = g.K.FarObject.enc in
    let ev = g.V.FarObject.enc in
    let l = g.J.Naming.limits in
    let olds = c.args.callers.now in
    let mids = c.gather.new.callers in
    let reads = c.read_parts.new.callers in
    let back = c.gather.ensures.back in
    let some : 0 < length olds = omega (arith, c.if-callers-eq0.false, back.count) in
    let b = c.buckets-buckets.ensures in
    closed ek ev l olds mids reads c.in-Ok.mark c.in-Ok-gather.field-0 (all_of c.in-Ok-read_parts.bundles.items) c.in-Ok.ensures.front back c.in-Ok.ensures.told c.read_parts.ensures.back c.in-Ok-gather.ensures.front some
    (rw b.count at c.in-Ok-read_parts.ensures.pairs) c.same_history.ensures c.buckets_make_map.ensures (omega (arith, b.count, b.some))
