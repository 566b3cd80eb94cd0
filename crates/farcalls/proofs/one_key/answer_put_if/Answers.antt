use Rattle.std.proofs.Common.{◌≡◌, inl, inr, ℕ, List, [], ◌∷◌, Option, Some, None, Ok, Err, subst}
use Rattle.table_core.specs.declared.operation.Operation.TheVariants as op
use Rattle.farcalls.specs.Sessions.{Makes}
use Rattle.farcalls.proofs.Handling.{if_handled}
use Rattle.farcalls.proofs.one_key.answer_put_if.Goals as goal

pub returns : goal.returns
returns g c = if_handled g.S.Calls.limits (c.args.expected.now ∷ c.args.value.now ∷ []) c.args.key.now (Some c.args.expected.now) c.args.value.now (g.S.Calls.shown c.args.me.now) (g.S.Calls.shown c.put_if-called.new.me) c.put_if-called.result c.args.out.now.items c.reply_if.new.out.items c.reply_if.result c.put_if-called.ensures c.reply_if.ensures
