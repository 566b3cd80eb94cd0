use Rattle.std.proofs.Common.{[], refl, inr}
use Rattle.far_server.specs.Keyed.{IsIdle}
use Rattle.far_server.proofs.Going.{no_step}
use Rattle.far_server.proofs.Pushed.{none}
use Rattle.stored_keys.specs.StoredKeys.{stored_key}
use Rattle.far_server.proofs.one_key.try_key.Goals as goal

pub returns-in-Err : goal.returns-in-Err
returns-in-Err g c = ([], none c.args.reply.now.items c.args.reply.now.items refl, (g.S.Calls.shown c.args.me.now, no_step (IsIdle g.S.Calls.limits (stored_key c.args.asking.keyspace c.args.key.now)) (g.S.Calls.shown c.args.me.now), inr refl))
