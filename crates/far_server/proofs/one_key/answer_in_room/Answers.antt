use Rattle.std.proofs.Common.{ℕ, List, ◌++◌, refl, ap, ◌∙◌, inr}
use Rattle.resp.specs.Replies.{Failure, token}
use Rattle.far_server.specs.Refusing.{no_room}
use Rattle.far_server.proofs.Pushed.{on_ok}
use Rattle.far_server.proofs.Trying.{went, stored_after}
use Rattle.stored_keys.specs.StoredKeys.{stored_key}
use Rattle.far_server.proofs.one_key.answer_in_room.Goals as goal

pub returns-then-has_room-clause-done : goal.returns-then-has_room-clause-done
returns-then-has_room-clause-done g c = on_ok c.answer_now.result (λ p. (
  p.0,
  p.1,
  stored_after g.S.Calls.limits (stored_key c.args.asking.keyspace c.args.key.now) c.args.asking.command c.args.asking.now c.args.asking.most (g.S.Calls.shown c.args.me.now) (g.S.Calls.shown c.has_room.new.me) (g.S.Calls.shown c.answer_now.new.me) p.0 c.has_room.ensures p.2,
)) c.answer_now.ensures.done

pub returns-clause-done : goal.returns-clause-done
returns-clause-done g c = on_ok c.push_failure.result (λ is. (
  Failure (no_room c.full_reason.result),
  is ∙ ap (λ (text : List ℕ). c.args.reply.now.items ++ token (Failure text)) c.no_room.ensures,
  (g.S.Calls.shown c.has_room.new.me, went g.S.Calls.limits (stored_key c.args.asking.keyspace c.args.key.now) (g.S.Calls.shown c.args.me.now) (g.S.Calls.shown c.has_room.new.me) c.has_room.ensures, inr (inr (refl, inr (c.full_reason.result, refl)))),
)) c.push_failure.ensures.items
