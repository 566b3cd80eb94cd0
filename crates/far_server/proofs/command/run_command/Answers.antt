use Rattle.std.proofs.Common.{◌≡◌, ℕ, List, Option, Some, None, ◌++◌, refl, sym, subst, ◌∙◌}
use Rattle.std.specs.Prelude.{MatchOption}
use denote.Ref.{Bor}
use Rattle.std.specs.List.{flat_map}
use Rattle.resp.specs.Replies.{Token, token}
use Rattle.server_commands.specs.Replying.{AreReplies}
use Rattle.far_server.specs.Selections.{selects, IsSelected}
use Rattle.far_server.specs.Runs.{IsRunBy}
use Rattle.far_server.proofs.Pushed.{on_ok}
use Rattle.far_server.proofs.OneReply.{selected}
use Rattle.far_server.proofs.command.run_command.Goals as goal

pub returns-in-Some-clause-ran : goal.returns-in-Some-clause-ran
returns-in-Some-clause-ran g c =
    let settings = c.args.context.now.settings.now in
    let before = c.args.connection.now.selected in
    let after = c.answer_select.new.connection.selected in
    let session = g.S.Calls.shown c.args.me.now in
    let is : selects c.args.command ≡ Some c.in-Some.index = sym c.selects.ensures ∙ c.in-Some.is in
    let K : Option (Bor (List ℕ)) → Type 0 = λ o. (rs : List Token) × (c.answer_select.new.reply.items ≡ c.args.reply.now.items ++ flat_map token rs) × AreReplies 1 rs
    × MatchOption o ((after ≡ before) × IsRunBy g.S.Calls.limits settings.digest_keys c.args.now settings.bounds.longest_value c.args.limit c.args.command before session session rs)
    (λ index. (session ≡ session) × IsSelected settings.bounds.last_database index.now after rs) in
    on_ok c.answer_select.result (λ p. subst K (sym is) (p.0, p.1, selected settings.bounds.last_database c.in-Some.index.now after p.0 p.2, (refl, p.2))) c.answer_select.ensures.selected

pub returns-in-None-clause-ran : goal.returns-in-None-clause-ran
returns-in-None-clause-ran g c =
    let settings = c.args.context.now.settings.now in
    let before = c.args.connection.now.selected in
    let after = c.run_selected.new.connection.selected in
    let old = g.S.Calls.shown c.args.me.now in
    let new = g.S.Calls.shown c.run_selected.new.me in
    let is : selects c.args.command ≡ None = sym c.selects.ensures ∙ c.in-None.is in
    let K : Option (Bor (List ℕ)) → Type 0 = λ o. (rs : List Token) × (c.run_selected.new.reply.items ≡ c.args.reply.now.items ++ flat_map token rs) × AreReplies 1 rs
    × MatchOption o ((after ≡ before) × IsRunBy g.S.Calls.limits settings.digest_keys c.args.now settings.bounds.longest_value c.args.limit c.args.command before old new rs)
    (λ index. (old ≡ new) × IsSelected settings.bounds.last_database index.now after rs) in
    on_ok c.run_selected.result (λ p. subst K (sym is) (p.0, p.1, p.2, (c.run_selected.ensures.selected, p.3))) c.run_selected.ensures.ran
