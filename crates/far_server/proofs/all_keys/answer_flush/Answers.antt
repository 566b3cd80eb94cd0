use Rattle.std.proofs.Common.{◌≡◌, List, ℕ, [], ◌∷◌, ◌++◌, refl, ap, ◌∙◌, inl, inr}
use Rattle.std.specs.Prelude.{codes}
use Rattle.std.specs.List.{flat_map}
use Rattle.resp.specs.Replies.{Simple, Failure, token}
use Rattle.far_server.specs.Refusing.{text_with}
use Rattle.far_server.proofs.Pushed.{on_ok}
use Rattle.far_server.proofs.OneReply.{one}
use Rattle.far_server.proofs.all_keys.answer_flush.Goals as goal

pub returns-in-Ok : goal.returns-in-Ok
returns-in-Ok g c = on_ok c.push_one_simple.result (λ is. (Simple (codes "OK") ∷ [], is, one (Simple (codes "OK")) refl, inl (c.in-Ok.ensures, refl))) c.push_one_simple.ensures.exact

pub returns-after-matches : goal.returns-after-matches
returns-after-matches g c = on_ok c.push_one_failure.result (λ is. (
  Failure (text_with c.in-Err.why c.last_reason.result) ∷ [],
  is ∙ ap (λ (t : List ℕ). c.args.reply.now.items ++ flat_map token (Failure t ∷ [])) c.text_with.ensures,
  one (Failure (text_with c.in-Err.why c.last_reason.result)) refl,
  inr (c.in-Err.ensures, (c.in-Err.why, c.last_reason.result, refl)),
)) c.push_one_failure.ensures.exact
