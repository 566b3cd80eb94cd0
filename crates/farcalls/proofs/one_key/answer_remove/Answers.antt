use Rattle.std.proofs.Common.{◌≡◌, inl, inr, ℕ, List, [], ◌∷◌, Option, Some, None, Ok, Err, subst}
use Rattle.table_core.specs.declared.operation.Operation.TheVariants as op
use Rattle.farcalls.specs.Sessions.{Makes}
use Rattle.farcalls.proofs.Handling.{flag_called, flag_handled}
use Rattle.farcalls.proofs.one_key.answer_remove.Goals as goal
use Rattle.farcalls.specs.declared.refusal.Unanswered.TheVariants as unanswered

pub returns : goal.returns
returns g c =
    let new = g.S.Calls.shown c.remove.new.me in
    flag_handled g.S.Calls.limits [] (op.Remove c.args.key.now) unanswered.Lost (g.S.Calls.shown c.args.me.now) new (λ found made. (found, tt, made)) c.args.out.now.items c.reply_flag.new.out.items c.reply_flag.result c.flag_of-called.result
    (flag_called g.S.Calls.limits [] (op.Remove c.args.key.now) (g.S.Calls.shown c.args.me.now) new c.remove.result c.flag_of-called.result c.remove.ensures c.flag_of-called.ensures) c.reply_flag.ensures
