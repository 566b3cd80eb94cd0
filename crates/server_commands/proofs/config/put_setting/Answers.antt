use Rattle.std.proofs.lemmas.Result.{on_ok_weaker}
use Rattle.server_commands.proofs.Growing.{more_replies}
use Rattle.server_commands.proofs.config.put_setting.Goals as goal

pub returns-clause-done : goal.returns-clause-done
returns-clause-done c = on_ok_weaker c.put_value.result (more_replies 1 1 _ _ _ c.in_ok-put_string.ensures.done) c.put_value.ensures.done
