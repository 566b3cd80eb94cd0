use Rattle.std.proofs.Common.{◌≡◌, List, [], ◌∷◌, ◌++◌, refl, sym, subst}
use Rattle.std.specs.List.{flat_map}
use Rattle.resp.specs.Replies.{Token, token}
use Rattle.commands.specs.Arguments.{listed}
use Rattle.commands.specs.declared.name.OfKeys.{OfKeys}
use Rattle.far_server.specs.Runs.{IsOfKeys}
use Rattle.server_commands.specs.Replying.{AreReplies}
use Rattle.key_commands.specs.declared.key_command.KeyCommand.TheVariants as ask
use Rattle.far_server.proofs.Pushed.{on_ok, single}
use Rattle.far_server.proofs.OneReply.{one, counted_each, listed_if_short}
use Rattle.far_server.proofs.command.run_keys.Goals as goal

pub returns-in-Del : goal.returns-in-Del
returns-in-Del g c =
    let K : OfKeys → Type 0 = λ of. (rs : List Token) × (c.count_keys.new.reply.items ≡ c.args.reply.now.items ++ flat_map token rs) × AreReplies 1 rs × IsOfKeys g.S.Calls.limits c.args.keyspace c.args.now c.args.most c.args.limit of (listed c.args.keys) (g.S.Calls.shown c.args.me.now) (g.S.Calls.shown c.count_keys.new.me) rs in
    on_ok c.count_keys.result (λ p. subst K (sym c.in-Del.is) (p.0 ∷ [], single c.args.reply.now.items p.0 c.count_keys.new.reply.items p.1, one p.0 (counted_each g.S.Calls.limits c.args.keyspace c.args.now c.args.most ask.Delete (listed c.args.keys) (g.S.Calls.shown c.args.me.now) (g.S.Calls.shown c.count_keys.new.me) p.0 p.2), (p.0, refl, p.2))) c.count_keys.ensures

pub returns-in-Unlink : goal.returns-in-Unlink
returns-in-Unlink g c =
    let K : OfKeys → Type 0 = λ of. (rs : List Token) × (c.count_keys-in-Unlink.new.reply.items ≡ c.args.reply.now.items ++ flat_map token rs) × AreReplies 1 rs × IsOfKeys g.S.Calls.limits c.args.keyspace c.args.now c.args.most c.args.limit of (listed c.args.keys) (g.S.Calls.shown c.args.me.now) (g.S.Calls.shown c.count_keys-in-Unlink.new.me) rs in
    on_ok c.count_keys-in-Unlink.result (λ p. subst K (sym c.in-Unlink.is) (p.0 ∷ [], single c.args.reply.now.items p.0 c.count_keys-in-Unlink.new.reply.items p.1, one p.0 (counted_each g.S.Calls.limits c.args.keyspace c.args.now c.args.most ask.Delete (listed c.args.keys) (g.S.Calls.shown c.args.me.now) (g.S.Calls.shown c.count_keys-in-Unlink.new.me) p.0 p.2), (p.0, refl, p.2))) c.count_keys-in-Unlink.ensures

pub returns-in-Exists : goal.returns-in-Exists
returns-in-Exists g c =
    let K : OfKeys → Type 0 = λ of. (rs : List Token) × (c.count_keys-in-Exists.new.reply.items ≡ c.args.reply.now.items ++ flat_map token rs) × AreReplies 1 rs × IsOfKeys g.S.Calls.limits c.args.keyspace c.args.now c.args.most c.args.limit of (listed c.args.keys) (g.S.Calls.shown c.args.me.now) (g.S.Calls.shown c.count_keys-in-Exists.new.me) rs in
    on_ok c.count_keys-in-Exists.result (λ p. subst K (sym c.in-Exists.is) (p.0 ∷ [], single c.args.reply.now.items p.0 c.count_keys-in-Exists.new.reply.items p.1, one p.0 (counted_each g.S.Calls.limits c.args.keyspace c.args.now c.args.most ask.Exists (listed c.args.keys) (g.S.Calls.shown c.args.me.now) (g.S.Calls.shown c.count_keys-in-Exists.new.me) p.0 p.2), (p.0, refl, p.2))) c.count_keys-in-Exists.ensures

pub returns-in-Touch : goal.returns-in-Touch
returns-in-Touch g c =
    let K : OfKeys → Type 0 = λ of. (rs : List Token) × (c.count_keys-in-Touch.new.reply.items ≡ c.args.reply.now.items ++ flat_map token rs) × AreReplies 1 rs × IsOfKeys g.S.Calls.limits c.args.keyspace c.args.now c.args.most c.args.limit of (listed c.args.keys) (g.S.Calls.shown c.args.me.now) (g.S.Calls.shown c.count_keys-in-Touch.new.me) rs in
    on_ok c.count_keys-in-Touch.result (λ p. subst K (sym c.in-Touch.is) (p.0 ∷ [], single c.args.reply.now.items p.0 c.count_keys-in-Touch.new.reply.items p.1, one p.0 (counted_each g.S.Calls.limits c.args.keyspace c.args.now c.args.most ask.Exists (listed c.args.keys) (g.S.Calls.shown c.args.me.now) (g.S.Calls.shown c.count_keys-in-Touch.new.me) p.0 p.2), (p.0, refl, p.2))) c.count_keys-in-Touch.ensures

pub returns-in-MGet : goal.returns-in-MGet
returns-in-MGet g c =
    let K : OfKeys → Type 0 = λ of. (rs : List Token) × (c.get_keys.new.reply.items ≡ c.args.reply.now.items ++ flat_map token rs) × AreReplies 1 rs × IsOfKeys g.S.Calls.limits c.args.keyspace c.args.now c.args.most c.args.limit of (listed c.args.keys) (g.S.Calls.shown c.args.me.now) (g.S.Calls.shown c.get_keys.new.me) rs in
    on_ok c.get_keys.result (λ p. subst K (sym c.in-MGet.is) (p.0, p.1, listed_if_short g.S.Calls.limits c.args.keyspace c.args.now c.args.most ask.Get c.args.limit (listed c.args.keys) (g.S.Calls.shown c.args.me.now) (g.S.Calls.shown c.get_keys.new.me) p.0 p.2, p.2)) c.get_keys.ensures
