use Rattle.std.proofs.Common.{◌<◌, ◌≤◌, length, refl, inl, inr}
use Rattle.resp.specs.Replies.{Failure}
use Rattle.hash_table.proofs.Fronts.{goes_self}
use Rattle.far_server.specs.Refusing.{key_too_long}
use Rattle.far_server.proofs.Pushed.{on_ok}
use Rattle.far_server.proofs.one_key.answer_key.Goals as goal

pub returns-then-key-gt-LONGEST_KEY-clause-done : goal.returns-then-key-gt-LONGEST_KEY-clause-done
returns-then-key-gt-LONGEST_KEY-clause-done g c =
    let long : 65528 < length c.args.key.now = search in
    on_ok c.push_failure.result (λ is. (Failure key_too_long, is, inr (long, goes_self (g.S.Calls.shown c.args.me.now).pass, refl))) c.push_failure.ensures.items

pub returns-clause-done : goal.returns-clause-done
returns-clause-done g c =
    let short : length c.args.key.now ≤ 65528 = search in
    on_ok c.answer_short.result (λ p. (p.0, p.1, inl (short, p.2))) c.answer_short.ensures.done
