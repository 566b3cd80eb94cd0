use Rattle.server_commands.specs.Replying.{Replies}
use Rattle.server_commands.proofs.command_reply.put_lines.Given as goal

abbrev pub invariant-loop-word : goal.invariant-loop-word
invariant-loop-word l = Replies l.word-index l.initial.out.items l.out.items
