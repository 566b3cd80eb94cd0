use Rattle.std.proofs.Common.{refl}
use Rattle.std.proofs.lemmas.Result.{on_ok_weaker}
use Rattle.resp.specs.Replies.{Simple}
use Rattle.server_commands.proofs.Growing.{one_reply}
use Rattle.server_commands.proofs.reply_parts.put_line.Goals as goal

pub returns-clause-done : goal.returns-clause-done
returns-clause-done c = on_ok_weaker c.push_simple.result (one_reply (Simple c.args.bytes.now) _ _ refl) c.push_simple.ensures.items
