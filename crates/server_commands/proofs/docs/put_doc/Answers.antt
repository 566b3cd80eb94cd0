use Rattle.std.proofs.lemmas.Result.{on_ok_weaker}
use Rattle.server_commands.proofs.Growing.{more_replies, array_reply, grows_on}
use Rattle.server_commands.proofs.docs.put_doc.Goals as goal

pub returns-clause-done : goal.returns-clause-done
returns-clause-done c =
    let front = more_replies 2 2 _ _ _ c.in_ok-put_word.ensures.done c.in_ok-put_word-2.ensures.done in
    on_ok_weaker c.put_word-3.result (λ p. more_replies 1 1 _ _ _ c.in_ok-put_string.ensures.done (array_reply 6 _ _ _ c.in_ok-put_count.ensures.done (more_replies 4 2 _ _ _ front p))) c.put_word-3.ensures.done

pub returns-clause-grown : goal.returns-clause-grown
returns-clause-grown c =
    let front = grows_on _ _ _ c.in_ok-put_string.ensures.grown c.in_ok-put_count.ensures.grown in
    let words = grows_on _ _ _ c.in_ok-put_word.ensures.grown (grows_on _ _ _ c.in_ok-put_word-2.ensures.grown c.put_word-3.ensures.grown) in
    grows_on _ _ _ front words
