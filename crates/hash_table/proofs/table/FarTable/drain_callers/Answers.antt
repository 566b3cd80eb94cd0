use Rattle.std.proofs.Common.{◌≡◌, ◌<◌, ◌∙◌, length, subst, arith}
use Rattle.hash_table.specs.Closes.{IsCloseFault}
use Rattle.hash_table.proofs.Drains.{drains_none, drains}
use Rattle.hash_table.proofs.table.FarTable.drain_callers.Goals as goal

pub returns-then-callers-eq0-clause-drained : goal.returns-then-callers-eq0-clause-drained
returns-then-callers-eq0-clause-drained g c =
    let back = c.gather.ensures.back in
    let none : length c.args.callers.now ≡ 0 = omega (arith, c.if-callers-eq0.true, back.count) in
    drains_none g.K.FarObject.enc g.V.FarObject.enc g.J.Naming.limits c.args.callers.now c.in-Ok.mark c.args.rest.now c.same_history.ensures none c.in-Ok.ensures.front

pub returns-in-Ok-gather-clause-drained : goal.returns-in-Ok-gather-clause-drained
returns-in-Ok-gather-clause-drained g c =
    let olds = c.args.callers.now in
    let mids = c.gather.new.callers in
    let reads = c.drain_by_first-counts.new.callers in
    let back = c.gather.ensures.back in
    let some : 0 < length olds = omega (arith, c.if-callers-eq0.false, back.count) in
    let b = c.buckets-buckets.ensures in
    drains g.K.FarObject.enc g.V.FarObject.enc g.J.Naming.limits olds mids reads c.in-Ok.mark c.in-Ok-gather.field-0 c.args.rest.now c.drain_by_first-counts.new.rest c.drain_by_first-counts.result.lost c.in-Ok.ensures.front back c.in-Ok.ensures.told
    c.drain_by_first-counts.ensures.back c.in-Ok-gather.ensures.front some c.drain_by_first-counts.ensures.drained c.same_history.ensures (omega (arith, b.count, b.some))

pub returns-clause-fault : goal.returns-clause-fault
returns-clause-fault g c =
    let many : length c.drain_by_first-counts.new.callers ≡ length c.args.callers.now = c.drain_by_first-counts.ensures.back.count ∙ c.gather.ensures.back.count in
    subst (λ n. IsCloseFault g.K.FarObject.enc g.V.FarObject.enc g.J.Naming.limits n c.in-Err-gather.fault) many c.in-Err-gather.ensures.fault
