use Rattle.std.proofs.Common.{refl, to_z, of_z, w64}
use Rattle.std.proofs.lemmas.Int.{to_z-of_z}
use Rattle.std.proofs.lemmas.Result.{on_ok_weaker}
use Rattle.resp.specs.Replies.{Number}
use Rattle.server_commands.proofs.Growing.{one_reply, tells_one, number_as}
use Rattle.server_commands.proofs.reply_parts.put_number.Goals as goal

pub returns-clause-told : goal.returns-clause-told
returns-clause-told c =
    on_ok_weaker c.push_number.result (λ e. number_as _ _ _ _ (to_z-of_z w64 c.args.number c.ranges.number) (tells_one (Number (to_z w64 (of_z w64 c.args.number))) _ _ e)) c.push_number.ensures.items

pub returns-clause-done : goal.returns-clause-done
returns-clause-done c = on_ok_weaker c.push_number.result (one_reply (Number (to_z w64 (of_z w64 c.args.number))) _ _ refl) c.push_number.ensures.items
