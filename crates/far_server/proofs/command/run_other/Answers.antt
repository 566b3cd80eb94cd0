use Rattle.std.proofs.Common.{◌≡◌, List, [], ◌∷◌, ◌++◌, refl, sym, subst}
use Rattle.std.specs.List.{flat_map}
use Rattle.resp.specs.Replies.{Token, token}
use Rattle.commands.specs.declared.command.Command.{Command}
use Rattle.far_server.specs.Runs.{IsOther}
use Rattle.server_commands.specs.Replying.{AreReplies}
use Rattle.commands.specs.Arguments.{listed}
use Rattle.far_server.proofs.Pushed.{on_ok, single}
use Rattle.far_server.proofs.OneReply.{one, set_each}
use Rattle.far_server.proofs.command.run_other.Goals as goal

pub returns-in-SetMany-clause-ran : goal.returns-in-SetMany-clause-ran
returns-in-SetMany-clause-ran g c =
    let K : Command → Type 0 = λ asked. (rs : List Token) × (c.set_pairs.new.reply.items ≡ c.args.reply.now.items ++ flat_map token rs) × AreReplies 1 rs × IsOther g.S.Calls.limits c.args.keyspace c.args.now c.args.context.now.settings.now.bounds.longest_value c.args.limit asked (g.S.Calls.shown c.args.me.now) (g.S.Calls.shown c.set_pairs.new.me) rs in
    on_ok c.set_pairs.result (λ p. subst K (sym c.in-SetMany.is) (p.0 ∷ [], single c.args.reply.now.items p.0 c.set_pairs.new.reply.items p.1, one p.0 (set_each g.S.Calls.limits c.args.keyspace c.args.now c.args.context.now.settings.now.bounds.longest_value (listed c.in-SetMany.pairs) (g.S.Calls.shown c.args.me.now) (g.S.Calls.shown c.set_pairs.new.me) p.0 p.2), (p.0, refl, p.2))) c.set_pairs.ensures
