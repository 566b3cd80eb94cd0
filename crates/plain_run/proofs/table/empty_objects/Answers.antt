use Rattle.std.proofs.Common.{arith}
use Rattle.plain_run.proofs.Calls.{still_empty}
use Rattle.plain_run.proofs.table.empty_objects.Goals as goal

pub loop-preserved : goal.loop-preserved
loop-preserved c = (
  omega (arith, c.in_ok-push.ensures.len, c.loop.invariant.0),
  still_empty c.loop.objects.items c.push.new.self.items c.in_ok-empty.field-0 c.in_ok-push.ensures.items c.in_ok-empty.ensures c.loop.invariant.1,
)
