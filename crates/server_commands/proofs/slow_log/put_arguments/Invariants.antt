use Rattle.server_commands.specs.Replying.{Replies}
use Rattle.server_commands.proofs.slow_log.put_arguments.Given as goal

abbrev pub invariant-loop-argument : goal.invariant-loop-argument
invariant-loop-argument l = Replies l.argument-index l.initial.out.items l.out.items
