use Rattle.std.proofs.lemmas.Result.{on_ok_weaker}
use Rattle.server_commands.proofs.Growing.{more_replies, array_reply}
use Rattle.server_commands.proofs.slow_log.put_command.Goals as goal

pub returns-clause-done : goal.returns-clause-done
returns-clause-done c =
    let front = more_replies 3 1 _ _ _ c.in_ok-put_times.ensures.done c.in_ok-put_arguments.ensures.done in
    on_ok_weaker c.put_client.result (λ p. array_reply 6 _ _ _ c.in_ok-put_count.ensures.done (more_replies 4 2 _ _ _ front p)) c.put_client.ensures.done
