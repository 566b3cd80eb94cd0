use Rattle.std.proofs.Common.{◌≡◌, ◌≢◌, ℕ, Bool, true, MatchBool, subst, List, [], ◌∷◌, ◌++◌, length, take, drop, ◌-◌, sym, refl, ap, ◌∙◌, inl}
use Rattle.std.specs.Prelude.{codes}
use Rattle.resp.specs.Replies.{Simple, token}
use Rattle.commands.specs.Arguments.{listed}
use Rattle.far_server.specs.Many.{ok}
use Rattle.std.proofs.lemmas.List.{take_rest}
use Rattle.far_server.proofs.Pushed.{on_ok, cut, pushed, next_done}
use Rattle.far_server.proofs.Several.{set_more}
use Rattle.far_server.proofs.several_keys.set_pairs.Goals as goal

pub loop-key-preserved : goal.loop-key-preserved
loop-key-preserved g c =
    let inv = c.loop-key.invariant in
    let d = c.in-Ok.ensures.done in
    let before = c.args.reply.now.items in
    let now : c.answer_next.new.reply.items ≡ before ++ token d.0 = d.1 ∙ ap (λ (l : List ℕ). l ++ token d.0) inv.0 in
    let said : take (length c.deref.result.now - c.len-before.result) (drop c.len-before.result c.deref.result.now) ≡ token d.0 = take_rest c.deref.result.now c.len-before.result ∙ (ap (λ (l : List ℕ). drop c.len-before.result l) c.deref.ensures.value ∙ pushed c.len-before.result before (token d.0) c.answer_next.new.reply.items inv.1 now) in
    let is_true : c.is_ok.result ≡ true = search in
    let M : Bool → Type 0 = λ b. MatchBool b (take (length c.deref.result.now - c.len-before.result) (drop c.len-before.result c.deref.result.now) ≡ ok) (take (length c.deref.result.now - c.len-before.result) (drop c.len-before.result c.deref.result.now) ≢ ok) in
    let said_ok : token d.0 ≡ ok = sym said ∙ subst M is_true c.is_ok.ensures in (
      c.truncate.ensures.items ∙ cut c.len-before.result before (token d.0) c.answer_next.new.reply.items inv.1 now,
      inv.1,
      (
        inv.2.0 ++ c.in-Some.key.now ∷ c.in-Some.value.now ∷ [],
        next_done (listed c.args.pairs) inv.2.0 (listed c.loop-key.rest) (listed c.in-Some.behind) (c.in-Some.key.now ∷ c.in-Some.value.now ∷ []) inv.2.1 c.in-Some.ensures,
        set_more g.S.Calls.limits c.args.keyspace c.args.now c.args.most inv.2.0 c.in-Some.key.now c.in-Some.value.now (g.S.Calls.shown c.args.me.now) (g.S.Calls.shown c.loop-key.me) (g.S.Calls.shown c.answer_next.new.me) d.0 inv.2.2 (_, refl, d.2) said_ok,
      ),
    )

pub returns : goal.returns
returns g c =
    let inv = c.loop-key.invariant in
    on_ok c.push_simple.result (λ is. (
      Simple (codes "OK"),
      is ∙ ap (λ (l : List ℕ). l ++ token (Simple (codes "OK"))) inv.0,
      inl (inv.2.0, listed c.loop-key.rest, inv.2.1, c.in_default.ensures, inv.2.2, refl),
    )) c.push_simple.ensures.items
