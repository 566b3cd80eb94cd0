use Rattle.std.proofs.Common.{arith}
use Rattle.server_commands.proofs.Growing.{more_replies, array_of}
use Rattle.server_commands.proofs.command_reply.put_list.Goals as goal

pub loop-entry-preserved : goal.loop-entry-preserved
loop-entry-preserved c = more_replies c.loop-entry.entry-index 1 _ _ _ c.loop-entry.invariant c.in_ok-put_entry.ensures.done

pub returns-clause-done : goal.returns-clause-done
returns-clause-done c = array_of _ _ _ _ _ (omega arith) c.in_ok-put_count.ensures.done c.loop-entry.invariant
