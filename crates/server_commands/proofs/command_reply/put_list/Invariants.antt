use Rattle.server_commands.specs.Replying.{Replies}
use Rattle.server_commands.proofs.command_reply.put_list.Given as goal

abbrev pub invariant-loop-entry : goal.invariant-loop-entry
invariant-loop-entry l = Replies l.entry-index l.initial.out.items l.out.items
