use Rattle.std.proofs.Common.{◌≡◌, List, Bool, true, false, MatchBool, ◌++◌, refl, sym, subst, ◌∙◌}
use Rattle.std.specs.List.{flat_map}
use Rattle.resp.specs.Replies.{Token, token}
use Rattle.server_commands.specs.Replying.{AreReplies}
use Rattle.far_server.specs.declared.selection.Selection.{Selection}
use Rattle.far_server.specs.Selections.{keyspace_of, is_on_keys, IsUnselected}
use Rattle.far_server.specs.Runs.{IsRunAs, IsRunBy}
use Rattle.far_server.proofs.Pushed.{on_ok}
use Rattle.far_server.proofs.OneReply.{unselected}
use Rattle.far_server.proofs.command.run_selected.Goals as goal

pub returns-in-Database-clause-ran : goal.returns-in-Database-clause-ran
returns-in-Database-clause-ran g c =
    let settings = c.args.context.now.settings.now in
    let K : Selection → Type 0 = λ s. (rs : List Token) × (c.run_in.new.reply.items ≡ c.args.reply.now.items ++ flat_map token rs) × AreReplies 1 rs
    × IsRunBy g.S.Calls.limits settings.digest_keys c.args.now settings.bounds.longest_value c.args.limit c.args.command s (g.S.Calls.shown c.args.me.now) (g.S.Calls.shown c.run_in.new.me) rs in
    on_ok c.run_in.result (λ p. subst K (sym c.in-Database.is) p) c.run_in.ensures.ran

pub returns-then-is_on_keys-clause-ran : goal.returns-then-is_on_keys-clause-ran
returns-then-is_on_keys-clause-ran g c =
    let settings = c.args.context.now.settings.now in
    let session = g.S.Calls.shown c.args.me.now in
    let yes : is_on_keys c.args.command ≡ true = search in
    let M : Bool → List Token → Type 0 = λ b rs. MatchBool b ((session ≡ session) × IsUnselected c.in-Refused.refused rs) (IsRunAs g.S.Calls.limits (keyspace_of settings.digest_keys 0) c.args.now settings.bounds.longest_value c.args.limit c.args.command session session rs) in
    let K : Selection → Type 0 = λ s. (rs : List Token) × (c.push_no_database.new.reply.items ≡ c.args.reply.now.items ++ flat_map token rs) × AreReplies 1 rs
    × IsRunBy g.S.Calls.limits settings.digest_keys c.args.now settings.bounds.longest_value c.args.limit c.args.command s session session rs in
    on_ok c.push_no_database.result (λ p. subst K (sym c.in-Refused.is) (p.0, p.1, unselected c.in-Refused.refused p.0 p.2, subst (λ (b : Bool). M b p.0) (sym yes) (refl, p.2))) c.push_no_database.ensures

pub returns-else-is_on_keys-clause-ran : goal.returns-else-is_on_keys-clause-ran
returns-else-is_on_keys-clause-ran g c =
    let settings = c.args.context.now.settings.now in
    let old = g.S.Calls.shown c.args.me.now in
    let new = g.S.Calls.shown c.run_in-in-Refused.new.me in
    let no : is_on_keys c.args.command ≡ false = search in
    let M : Bool → List Token → Type 0 = λ b rs. MatchBool b ((old ≡ new) × IsUnselected c.in-Refused.refused rs) (IsRunAs g.S.Calls.limits (keyspace_of settings.digest_keys 0) c.args.now settings.bounds.longest_value c.args.limit c.args.command old new rs) in
    let K : Selection → Type 0 = λ s. (rs : List Token) × (c.run_in-in-Refused.new.reply.items ≡ c.args.reply.now.items ++ flat_map token rs) × AreReplies 1 rs
    × IsRunBy g.S.Calls.limits settings.digest_keys c.args.now settings.bounds.longest_value c.args.limit c.args.command s old new rs in
    on_ok c.run_in-in-Refused.result (λ p. subst K (sym c.in-Refused.is) (p.0, p.1, p.2, subst (λ (b : Bool). M b p.0) (sym no) p.3)) c.run_in-in-Refused.ensures.ran
