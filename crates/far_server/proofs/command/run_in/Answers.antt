use Rattle.std.proofs.Common.{◌≡◌, ℕ, List, Option, Some, [], ◌∷◌, ◌++◌, refl, sym, subst, ◌∙◌}
use Rattle.std.specs.Prelude.{MatchOption}
use denote.Ref.{Bor}
use Rattle.std.specs.List.{flat_map}
use Rattle.resp.specs.Replies.{Token, token}
use Rattle.key_commands.specs.declared.key_command.KeyCommand.{KeyCommand}
use Rattle.key_commands.specs.Doing.{of_one_key}
use Rattle.far_server.specs.Keyed.{IsKeyed}
use Rattle.far_server.specs.Runs.{IsOther}
use Rattle.server_commands.specs.Replying.{AreReplies}
use Rattle.far_server.proofs.Pushed.{on_ok, single}
use Rattle.far_server.proofs.OneReply.{one, keyed}
use Rattle.far_server.proofs.command.run_in.Goals as goal

pub returns-in-Some-clause-ran : goal.returns-in-Some-clause-ran
returns-in-Some-clause-ran g c =
    let l = g.S.Calls.limits in
    let now = c.args.now in
    let keyspace = c.args.keyspace in
    let most = c.args.context.now.settings.now.bounds.longest_value in
    let old = g.S.Calls.shown c.args.me.now in
    let new = g.S.Calls.shown c.answer_key.new.me in
    let is : of_one_key c.args.command ≡ Some (c.in-Some.key, c.in-Some.command) = sym c.on_one_key.ensures ∙ c.in-Some.is in
    let K : Option (Bor (List ℕ) × KeyCommand) → Type 0 = λ o. (rs : List Token) × (c.answer_key.new.reply.items ≡ c.args.reply.now.items ++ flat_map token rs) × AreReplies 1 rs
    × MatchOption o (IsOther l keyspace now most c.args.limit c.args.command old new rs) (λ p. (r : Token) × (rs ≡ r ∷ []) × IsKeyed l keyspace p.0.now p.1 now most old new r) in
    on_ok c.answer_key.result (λ p. subst K (sym is) (p.0 ∷ [], single c.args.reply.now.items p.0 c.answer_key.new.reply.items p.1, one p.0 (keyed l keyspace c.in-Some.key.now c.in-Some.command now most old new p.0 p.2), (p.0, refl, p.2))) c.answer_key.ensures.done
