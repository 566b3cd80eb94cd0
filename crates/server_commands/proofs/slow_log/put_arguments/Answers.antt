use Rattle.std.proofs.Common.{arith}
use Rattle.server_commands.proofs.Growing.{more_replies, array_of}
use Rattle.server_commands.proofs.slow_log.put_arguments.Goals as goal

pub loop-argument-preserved : goal.loop-argument-preserved
loop-argument-preserved c = more_replies c.loop-argument.argument-index 1 _ _ _ c.loop-argument.invariant c.in_ok-put_string.ensures.done

pub returns-clause-done : goal.returns-clause-done
returns-clause-done c = array_of _ _ _ _ _ (omega arith) c.in_ok-put_count.ensures.done c.loop-argument.invariant
