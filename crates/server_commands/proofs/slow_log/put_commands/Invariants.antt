use Rattle.server_commands.specs.Replying.{Replies}
use Rattle.server_commands.proofs.slow_log.put_commands.Given as goal

abbrev pub invariant-loop-command : goal.invariant-loop-command
invariant-loop-command l = Replies l.command-index l.initial.out.items l.out.items
