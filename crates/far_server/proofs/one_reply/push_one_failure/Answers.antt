use Rattle.std.proofs.Common.{refl}
use Rattle.resp.specs.Replies.{Failure}
use Rattle.server_commands.proofs.Growing.{one_reply}
use Rattle.far_server.proofs.Pushed.{on_ok}
use Rattle.far_server.proofs.one_reply.push_one_failure.Goals as goal

pub returns-clause-said : goal.returns-clause-said
returns-clause-said c = on_ok c.push_failure.result (λ is. one_reply (Failure c.args.text.now) c.args.reply.now.items c.push_failure.new.out.items refl is) c.push_failure.ensures.items
