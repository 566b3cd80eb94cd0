use Rattle.std.proofs.Common.{refl}
use Rattle.resp.specs.Replies.{Simple}
use Rattle.server_commands.proofs.Growing.{one_reply}
use Rattle.far_server.proofs.Pushed.{on_ok}
use Rattle.far_server.proofs.one_reply.push_one_simple.Goals as goal

pub returns-clause-said : goal.returns-clause-said
returns-clause-said c = on_ok c.push_simple.result (λ is. one_reply (Simple c.args.text.now) c.args.reply.now.items c.push_simple.new.out.items refl is) c.push_simple.ensures.items
