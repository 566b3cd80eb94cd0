use Rattle.far_map.proofs.Carrying.{puts_none}
use Rattle.far_map.proofs.load.put_each.Goals as goal

pub loop-key-init : goal.loop-key-init
loop-key-init g c = puts_none (g.S.Calls.shown c.args.me.now).pass

pub loop-key-preserved : goal.loop-key-preserved
loop-key-preserved g c = c.put_one-refused.ensures _ _ c.loop-key.invariant
