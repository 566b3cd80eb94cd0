use Rattle.std.proofs.lemmas.Result.{on_ok_weaker}
use Rattle.server_commands.proofs.Growing.{more_replies, array_reply}
use Rattle.server_commands.proofs.command_reply.put_entry.Goals as goal

pub returns-clause-done : goal.returns-clause-done
returns-clause-done c =
    let front = more_replies 2 1 _ _ _ (more_replies 1 1 _ _ _ c.in_ok-put_string.ensures.done c.in_ok-put_number.ensures.done) c.in_ok-put_lines.ensures.done in
    on_ok_weaker c.put_places.result (λ p. array_reply 6 _ _ _ c.in_ok-put_count.ensures.done (more_replies 3 3 _ _ _ front p)) c.put_places.ensures.done
