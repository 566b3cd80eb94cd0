use Rattle.table_core.proofs.Replaying.{one_more, stopped}
use Rattle.std.proofs.Common.{take}
use Rattle.table_core.proofs.machine.Machine.replay.Goals as goal

pub returns-in-Err-clause-refused : goal.returns-in-Err-clause-refused
returns-in-Err-clause-refused g c =
    let before = c.loop-at.invariant in
    stopped g.K.FarObject.enc g.V.FarObject.enc c.args.events.now c.loop-at.at c.index-events-at.result c.loop-at-test.true c.index-events-at.is c.loop-at.machine c.args.buckets before.1 before.0 c.in-Err.rule c.fault_at.result
    (c.in-Err.ensures.refused (take c.loop-at.at c.args.events.now) before.0) c.fault_at.ensures.memory c.fault_at.ensures.place

pub loop-at-preserved : goal.loop-at-preserved
loop-at-preserved g c =
    let before = c.loop-at.invariant in
    one_more g.K.FarObject.enc g.V.FarObject.enc c.args.events.now c.loop-at.at c.index-events-at.result c.loop-at-test.true c.index-events-at.is c.loop-at.machine c.follow.new.self c.args.buckets before.1
    (c.in_default.ensures.ok (take c.loop-at.at c.args.events.now) before.0)
