use Rattle.std.proofs.Common.{arith}
use Rattle.server_commands.proofs.Growing.{more_replies, array_of}
use Rattle.server_commands.proofs.command_reply.put_lines.Goals as goal

pub loop-word-preserved : goal.loop-word-preserved
loop-word-preserved c = more_replies c.loop-word.word-index 1 _ _ _ c.loop-word.invariant c.in_ok-put_line.ensures.done

pub returns-clause-done : goal.returns-clause-done
returns-clause-done c = array_of _ _ _ _ _ (omega arith) c.in_ok-put_count.ensures.done c.loop-word.invariant
