use Rattle.std.proofs.lemmas.Result.{on_ok_weaker}
use Rattle.server_commands.proofs.Growing.{more_replies}
use Rattle.server_commands.proofs.slow_log.put_client.Goals as goal

pub returns-clause-done : goal.returns-clause-done
returns-clause-done c = on_ok_weaker c.put_string-2.result (more_replies 1 1 _ _ _ c.in_ok-put_string.ensures.done) c.put_string-2.ensures.done
