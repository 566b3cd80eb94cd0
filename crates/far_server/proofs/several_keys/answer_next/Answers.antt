use Rattle.far_server.proofs.Pushed.{on_ok}
use Rattle.far_server.proofs.Trying.{keyed_after}
use Rattle.far_server.proofs.several_keys.answer_next.Goals as goal

pub returns-clause-done : goal.returns-clause-done
returns-clause-done g c = on_ok c.answer_key.result (λ p. (
  p.0,
  p.1,
  keyed_after g.S.Calls.limits c.args.asking.keyspace c.args.key.now c.args.asking.command c.args.asking.now c.args.asking.most (g.S.Calls.shown c.args.me.now) (g.S.Calls.shown c.look_ahead.new.me) (g.S.Calls.shown c.answer_key.new.me) p.0 c.look_ahead.ensures p.2,
)) c.answer_key.ensures.done
