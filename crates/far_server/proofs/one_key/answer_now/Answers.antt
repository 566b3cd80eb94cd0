use Rattle.std.proofs.Common.{◌≡◌, ℕ, Bool, false, List, length, ◌++◌, Ok, refl, ap, subst, ◌∙◌, inl, inr}
use Rattle.resp.specs.Replies.{Failure, token}
use Rattle.far_server.specs.Refusing.{text_with, overtaken}
use Rattle.far_server.specs.Keyed.{IsEnded}
use Rattle.far_server.proofs.Pushed.{on_ok, cut}
use Rattle.stored_keys.specs.StoredKeys.{stored_key}
use Rattle.far_server.proofs.one_key.answer_now.Goals as goal

pub returns-in-Ok-false-clause-done : goal.returns-in-Ok-false-clause-done
returns-in-Ok-false-clause-done g c =
    let e = c.in-Ok-false.ensures in
    let before = c.args.reply.now.items in
    let len : c.len-before.result ≡ length before = search in
    let T : Bool → Type 0 = λ b. IsEnded g.S.Calls.limits (stored_key c.args.asking.keyspace c.args.key.now) c.args.asking.command c.args.asking.now c.args.asking.most (g.S.Calls.shown c.args.me.now) (g.S.Calls.shown c.try_key.new.me) e.0 (Ok b) in
    let idles : T false = subst T c.in-Ok-false.field-0-test e.2 in
    on_ok c.fail.result (λ is. (
      Failure _,
      is ∙ ap (λ (l : List ℕ). l ++ token (Failure overtaken)) (cut c.len-before.result before e.0 c.try_key.new.reply.items len e.1),
      (g.S.Calls.shown c.try_key.new.me, idles, inr (inr (refl, inl refl))),
    )) c.fail.ensures.done

pub returns-in-Err-clause-done : goal.returns-in-Err-clause-done
returns-in-Err-clause-done g c =
    let e = c.in-Err.ensures in
    let before = c.args.reply.now.items in
    let len : c.len-before.result ≡ length before = search in
    on_ok c.fail-in-Err.result (λ is. (
      Failure (text_with c.told_as-why.result c.last_reason.result),
      is ∙ (ap (λ (l : List ℕ). l ++ token (Failure c.text_with.result.now)) (cut c.len-before.result before e.0 c.try_key.new.reply.items len e.1) ∙ ap (λ (t : List ℕ). before ++ token (Failure t)) c.text_with.ensures),
      (e.2.0, e.2.1, inr (inl (c.in-Err.why, c.told_as-why.result, c.last_reason.result, e.2.2, c.told_as-why.ensures.told, refl))),
    )) c.fail-in-Err.ensures.done
