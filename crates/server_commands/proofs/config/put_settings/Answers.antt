use Rattle.std.proofs.Common.{false, arith}
use Rattle.server_commands.proofs.Growing.{asked_more, asked_less}
use Rattle.server_commands.proofs.config.put_settings.Goals as goal
use Rattle.server_commands.proofs.config.put_settings.Goals.{then-asked-index+in_ok-put_setting, else-asked-index}

pub loop-index-preserved : goal.loop-index-preserved
loop-index-preserved c =
    elim c.if-asked-index.branch [
      | then-asked-index+in_ok-put_setting w ↦ rw w.out-is (asked_more c.args.asked.now c.loop-index.index false _ _ _ (omega arith) w.if-asked-index.true c.loop-index.invariant w.in_ok-put_setting.ensures.done)
      | else-asked-index w ↦ rw w.out-is (asked_less c.args.asked.now c.loop-index.index false _ _ (omega arith) w.if-asked-index.false c.loop-index.invariant)
    ]
