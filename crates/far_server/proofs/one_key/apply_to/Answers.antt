use Rattle.std.proofs.Common.{◌≡◌, length, ◌∙◌}
use Rattle.resp.specs.Replies.{token}
use Rattle.far_server.proofs.Pushed.{cut}
use Rattle.far_server.proofs.one_key.apply_to.Goals as goal

pub returns-then-has_room_for-clause-done : goal.returns-then-has_room_for-clause-done
returns-then-has_room_for-clause-done c = (c.in-Ok.ensures.done.0, c.has_room_for.ensures ∙ c.in-Ok.ensures.done.1, c.in-Ok.ensures.done.2)

pub returns-else-has_room_for-clause-kept : goal.returns-else-has_room_for-clause-kept
returns-else-has_room_for-clause-kept c =
    let len : c.len-before.result ≡ length c.args.reply.now.items = search in
    c.truncate.ensures.items ∙ cut c.len-before.result c.args.reply.now.items (token c.in-Ok.ensures.done.0) c.has_room_for.new.reply.items len (c.has_room_for.ensures ∙ c.in-Ok.ensures.done.1)
