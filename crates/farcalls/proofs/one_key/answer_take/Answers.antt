use Rattle.std.proofs.Common.{◌≡◌, inl, inr, ℕ, List, [], ◌∷◌, Option, Some, None, Ok, Err, subst}
use Rattle.table_core.specs.declared.operation.Operation.TheVariants as op
use Rattle.farcalls.specs.Sessions.{Makes}
use Rattle.farcalls.proofs.Handling.{value_handled}
use Rattle.farcalls.proofs.one_key.answer_take.Goals as goal
use Rattle.farcalls.specs.declared.refusal.Unanswered.TheVariants as unanswered

pub returns : goal.returns
returns g c = value_handled g.S.Calls.limits [] (op.Remove c.args.key.now) (unanswered.Lost) (g.S.Calls.shown c.args.me.now) (g.S.Calls.shown c.remove-called.new.me) (λ found made. (found, tt, made)) c.args.out.now.items c.reply_value.new.out.items c.reply_value.result c.remove-called.result c.remove-called.ensures c.reply_value.ensures
