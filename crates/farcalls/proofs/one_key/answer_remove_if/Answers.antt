use Rattle.std.proofs.Common.{◌≡◌, inl, inr, ℕ, List, [], ◌∷◌, Option, Some, None, Ok, Err, subst}
use Rattle.table_core.specs.declared.operation.Operation.TheVariants as op
use Rattle.farcalls.specs.Sessions.{Makes}
use Rattle.farcalls.proofs.Handling.{removal_handled}
use Rattle.farcalls.proofs.one_key.answer_remove_if.Goals as goal

pub returns : goal.returns
returns g c = removal_handled g.S.Calls.limits c.args.key.now c.args.expected.now (g.S.Calls.shown c.args.me.now) (g.S.Calls.shown c.remove_if-called.new.me) c.remove_if-called.result c.args.out.now.items c.reply_removal.new.out.items c.reply_removal.result c.remove_if-called.ensures c.reply_removal.ensures
