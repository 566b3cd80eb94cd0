use Rattle.std.proofs.lemmas.Result.{on_ok_weaker}
use Rattle.server_commands.proofs.Growing.{more_replies, tells_more}
use Rattle.server_commands.proofs.reply_parts.put_word.Goals as goal

pub returns-clause-told : goal.returns-clause-told
returns-clause-told c =
    let name = rw c.as_bytes.ensures.value at c.in_ok-put_string.ensures.told in
    let text = rw c.as_bytes-2.ensures.value at c.put_string-2.ensures.told in
    on_ok_weaker c.put_string-2.result (tells_more _ _ _ _ _ name) text

pub returns-clause-done : goal.returns-clause-done
returns-clause-done c = on_ok_weaker c.put_string-2.result (more_replies 1 1 _ _ _ c.in_ok-put_string.ensures.done) c.put_string-2.ensures.done
