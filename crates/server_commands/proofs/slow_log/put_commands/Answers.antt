use Rattle.std.proofs.Common.{arith}
use Rattle.server_commands.proofs.Growing.{more_replies, array_of}
use Rattle.server_commands.proofs.slow_log.put_commands.Goals as goal

pub loop-command-preserved : goal.loop-command-preserved
loop-command-preserved c = more_replies c.loop-command.command-index 1 _ _ _ c.loop-command.invariant c.in_ok-put_command.ensures.done

pub returns-clause-done : goal.returns-clause-done
returns-clause-done c = array_of _ _ _ _ _ (omega arith) c.in_ok-put_count.ensures.done c.loop-command.invariant
