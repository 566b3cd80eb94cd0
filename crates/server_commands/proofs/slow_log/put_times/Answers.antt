use Rattle.std.proofs.lemmas.Result.{on_ok_weaker}
use Rattle.server_commands.proofs.Growing.{more_replies, grows_on}
use Rattle.server_commands.proofs.slow_log.put_times.Goals as goal

pub returns-clause-done : goal.returns-clause-done
returns-clause-done c =
    on_ok_weaker c.put_large-3.result (more_replies 2 1 _ _ _ (more_replies 1 1 _ _ _ c.in_ok-put_large.ensures.done c.in_ok-put_large-2.ensures.done)) c.put_large-3.ensures.done

pub returns-clause-grown : goal.returns-clause-grown
returns-clause-grown c =
    grows_on _ _ _ c.in_ok-put_large.ensures.grown (grows_on _ _ _ c.in_ok-put_large-2.ensures.grown c.put_large-3.ensures.grown)
