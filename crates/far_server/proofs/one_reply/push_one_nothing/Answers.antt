use Rattle.std.proofs.Common.{refl}
use Rattle.resp.specs.Replies.{Nothing}
use Rattle.server_commands.proofs.Growing.{one_reply}
use Rattle.far_server.proofs.Pushed.{on_ok}
use Rattle.far_server.proofs.one_reply.push_one_nothing.Goals as goal

pub returns-clause-said : goal.returns-clause-said
returns-clause-said c = on_ok c.push_nothing.result (λ is. one_reply Nothing c.args.reply.now.items c.push_nothing.new.out.items refl is) c.push_nothing.ensures.items
