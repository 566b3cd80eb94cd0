use Rattle.std.proofs.Common.{refl}
use Rattle.std.proofs.lemmas.Result.{on_ok_weaker}
use Rattle.resp.specs.Replies.{String}
use Rattle.server_commands.proofs.Growing.{one_reply, tells_one}
use Rattle.server_commands.proofs.reply_parts.put_string.Goals as goal

pub returns-clause-told : goal.returns-clause-told
returns-clause-told c = on_ok_weaker c.push_string.result (tells_one (String c.args.bytes.now) _ _) c.push_string.ensures.items

pub returns-clause-done : goal.returns-clause-done
returns-clause-done c = on_ok_weaker c.push_string.result (one_reply (String c.args.bytes.now) _ _ refl) c.push_string.ensures.items
