use Rattle.std.proofs.Common.{◌≡◌, ℕ, ℤ, pos, w64, MatchBool, List, [], ◌∷◌, ◌++◌, length, take, drop, ◌-◌, sym, refl, ap, subst, ◌∙◌, inl}
use Rattle.std.proofs.lemmas.Int.{to_z_pos}
use Rattle.resp.specs.Replies.{Number, token}
use Rattle.commands.specs.Arguments.{listed}
use Rattle.far_server.specs.Many.{one, none, AreCounted}
use Rattle.std.proofs.lemmas.List.{take_rest}
use Rattle.far_server.proofs.Pushed.{on_ok, cut, pushed, next_done, all_done}
use Rattle.far_server.proofs.Several.{counted_more}
use Rattle.far_server.proofs.several_keys.count_keys.Goals as goal

pub loop-key-preserved : goal.loop-key-preserved
loop-key-preserved g c =
    let inv = c.loop-key.invariant in
    let d = c.in-Ok.ensures.done in
    let before = c.args.reply.now.items in
    let now : c.answer_next.new.reply.items ≡ before ++ token d.0 = d.1 ∙ ap (λ (l : List ℕ). l ++ token d.0) inv.0 in
    let said : take (length c.deref.result.now - c.len-before.result) (drop c.len-before.result c.deref.result.now) ≡ token d.0 = take_rest c.deref.result.now c.len-before.result ∙ (ap (λ (l : List ℕ). drop c.len-before.result l) c.deref.ensures.value ∙ pushed c.len-before.result before (token d.0) c.answer_next.new.reply.items inv.1 now) in
    let M : List ℕ → Type 0 = λ l. MatchBool c.in-Some-is_one.is_one (l ≡ one) (l ≡ none) in
    let A : ℕ → Type 0 = λ n. AreCounted g.S.Calls.limits c.args.asking.keyspace c.args.asking.now c.args.asking.most c.args.asking.command (inv.3.0 ++ c.in-Some.key.now ∷ []) 0 n (g.S.Calls.shown c.args.me.now) (g.S.Calls.shown c.answer_next.new.me) in (
      c.truncate.ensures.items ∙ cut c.len-before.result before (token d.0) c.answer_next.new.reply.items inv.1 now,
      inv.1,
      c.counted-count.ensures.fits,
      (
        inv.3.0 ++ c.in-Some.key.now ∷ [],
        next_done (listed c.args.keys) inv.3.0 (listed c.loop-key.rest) (listed c.in-Some.behind) (c.in-Some.key.now ∷ []) inv.3.1 c.in-Some.ensures,
        subst A (sym c.counted-count.ensures.value)
            (counted_more g.S.Calls.limits c.args.asking.keyspace c.args.asking.now c.args.asking.most c.args.asking.command inv.3.0 c.in-Some.key.now 0 c.loop-key.count (g.S.Calls.shown c.args.me.now) (g.S.Calls.shown c.loop-key.me) (g.S.Calls.shown c.answer_next.new.me) d.0 c.in-Some-is_one.is_one inv.3.2 d.2 (subst M said c.in-Some-is_one.ensures)),
      ),
    )

pub returns : goal.returns
returns g c =
    let inv = c.loop-key.invariant in
    let A : List (List ℕ) → Type 0 = λ ks. AreCounted g.S.Calls.limits c.args.asking.keyspace c.args.asking.now c.args.asking.most c.args.asking.command ks 0 c.loop-key.count (g.S.Calls.shown c.args.me.now) (g.S.Calls.shown c.loop-key.me) in
    let value = to_z_pos w64 c.loop-key.count inv.2 in
    on_ok c.push_number.result (λ is. (
      Number (pos c.loop-key.count),
      is ∙ (ap (λ (z : ℤ). c.loop-key.reply.items ++ token (Number z)) value ∙ ap (λ (l : List ℕ). l ++ token (Number (pos c.loop-key.count))) inv.0),
      inl (c.loop-key.count, subst A (sym (all_done (listed c.args.keys) inv.3.0 (listed c.loop-key.rest) inv.3.1 c.in_default.ensures)) inv.3.2, refl),
    )) c.push_number.ensures.items
