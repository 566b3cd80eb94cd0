use Rattle.std.proofs.lemmas.Result.{on_ok_weaker}
use Rattle.server_commands.proofs.Growing.{tells_more, tells_one}
use Rattle.server_commands.proofs.greeting.put_modules.Goals as goal

pub returns-clause-told : goal.returns-clause-told
returns-clause-told c =
    on_ok_weaker c.put_count.result (λ e. tells_more _ _ _ _ _ c.in_ok-put_string.ensures.told (tells_one _ _ _ e)) c.put_count.ensures.done
