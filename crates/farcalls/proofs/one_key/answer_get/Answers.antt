use Rattle.std.proofs.Common.{◌≡◌, inl, inr, ℕ, List, [], ◌∷◌, Option, Some, None, Ok, Err, subst}
use Rattle.table_core.specs.declared.operation.Operation.TheVariants as op
use Rattle.farcalls.specs.Sessions.{Makes}
use Rattle.farcalls.proofs.Handling.{value_handled}
use Rattle.farcalls.proofs.one_key.answer_get.Goals as goal
use Rattle.farcalls.specs.declared.refusal.Unanswered.TheVariants as unanswered
use Rattle.far_map.specs.declared.refusal.MapRefusal.TheVariants as refusal
use Rattle.std.proofs.Common.{refl}

pub returns : goal.returns
returns g c = value_handled g.S.Calls.limits [] (op.Get c.args.key.now) (unanswered.Refused refusal.Memory) (g.S.Calls.shown c.args.me.now) (g.S.Calls.shown c.get-called.new.me) (λ found made. inr (refl, inr (found, tt, made))) c.args.out.now.items c.reply_value.new.out.items c.reply_value.result c.get-called.result c.get-called.ensures c.reply_value.ensures
