use Rattle.std.proofs.Common.{◌*◌, take, count_by}
use Rattle.server_commands.specs.Replying.{Replies}
use Rattle.server_commands.proofs.config.put_settings.Given as goal

abbrev pub invariant-loop-index : goal.invariant-loop-index
invariant-loop-index l = Replies (2 * count_by (λ a. a) (take l.index l.asked)) l.initial.out.items l.out.items
