use Rattle.std.proofs.Common.{◌≡◌, ◌<◌, ◌≤◌, suc, ℕ, List, [], ◌∷◌, ◌++◌, length, take, Bool, true, false, MatchBool, Ok, Err, refl, sym, ap, subst, ◌∙◌, inr, arith}
use Rattle.std.proofs.lemmas.List.{take_all}
use Rattle.far_server.specs.Flushes.{is_of, Finds, IsRemoval, IsRemoved, AreTaken}
use Rattle.far_server.proofs.Going.{one_more}
use Rattle.far_server.proofs.Flushing.{next_key, taken_more, found_steps, went}
use Rattle.far_server.proofs.all_keys.empty_bucket.Goals as goal

pub returns-in-Err : goal.returns-in-Err
returns-in-Err g c = went g.S.Calls.limits c.args.database (g.S.Calls.shown c.args.me.now) (g.S.Calls.shown c.all_keys_in.new.me) c.in-Err.ensures

pub loop-key-init : goal.loop-key-init
loop-key-init g c =
    let mid = g.S.Calls.shown c.all_keys_in.new.me in
    let F : List (List ℕ) → Type 0 = λ ks. Finds g.S.Calls.limits c.args.bucket (g.S.Calls.shown c.args.me.now) mid ks in
    (mid, subst F (sym c.deref-key-items.ensures.value) c.in-Ok.ensures, refl)

pub loop-key-preserved-then-not-is_of : goal.loop-key-preserved-then-not-is_of
loop-key-preserved-then-not-is_of g c =
    let inv = c.loop-key.invariant in
    let keys = c.deref-key-items.result.now in
    let i = c.loop-key.key-index in
    let key = c.key-item.result in
    let now = g.S.Calls.shown c.loop-key.me in
    let lt : suc i ≤ length keys = omega (arith, c.loop-key-test.true) in
    let told : c.is_of.result ≡ false = search in
    let no : is_of c.args.database key ≡ false = sym (c.is_of.ensures ∙ ap (λ (k : List ℕ). is_of c.args.database k) c.as_bytes.ensures) ∙ told in
    let M : Bool → Type 0 = λ b. MatchBool b (IsRemoved g.S.Calls.limits c.args.database key now now) (now ≡ now) in
    let T : List (List ℕ) → Type 0 = λ ks. AreTaken g.S.Calls.limits c.args.database ks inv.0 now in
    (inv.0, inv.1, subst T (sym (next_key keys i key lt c.key-item.is)) (taken_more g.S.Calls.limits c.args.database (take i keys) key inv.0 now now inv.2 (subst M (sym no) refl)))

pub loop-key-preserved : goal.loop-key-preserved
loop-key-preserved g c =
    let inv = c.loop-key.invariant in
    let keys = c.deref-key-items.result.now in
    let i = c.loop-key.key-index in
    let key = c.key-item.result in
    let was = g.S.Calls.shown c.loop-key.me in
    let now = g.S.Calls.shown c.remove.new.self in
    let lt : suc i ≤ length keys = omega (arith, c.loop-key-test.true) in
    let told : c.is_of.result ≡ true = search in
    let yes : is_of c.args.database key ≡ true = sym (c.is_of.ensures ∙ ap (λ (k : List ℕ). is_of c.args.database k) c.as_bytes.ensures) ∙ told in
    let M : Bool → Type 0 = λ b. MatchBool b (IsRemoved g.S.Calls.limits c.args.database key was now) (was ≡ now) in
    let T : List (List ℕ) → Type 0 = λ ks. AreTaken g.S.Calls.limits c.args.database ks inv.0 now in
    let removed : IsRemoved g.S.Calls.limits c.args.database key was now = (c.in-Ok-remove.value, record { answers = c.in-Ok-remove.ensures.answers; counts = c.in-Ok-remove.ensures.counts }) in
    (inv.0, inv.1, subst T (sym (next_key keys i key lt c.key-item.is)) (taken_more g.S.Calls.limits c.args.database (take i keys) key inv.0 was now inv.2 (subst M (sym yes) removed)))

pub returns-in-Err-remove : goal.returns-in-Err-remove
returns-in-Err-remove g c =
    let inv = c.loop-key.invariant in
    let keys = c.deref-key-items.result.now in
    let told : c.is_of.result ≡ true = search in
    let yes : is_of c.args.database c.key-item.result ≡ true = sym (c.is_of.ensures ∙ ap (λ (k : List ℕ). is_of c.args.database k) c.as_bytes.ensures) ∙ told in
    one_more (IsRemoval g.S.Calls.limits c.args.database) (g.S.Calls.shown c.args.me.now) (g.S.Calls.shown c.loop-key.me) (g.S.Calls.shown c.remove.new.self)
    (found_steps g.S.Calls.limits c.args.database c.args.bucket keys (take c.loop-key.key-index keys) (g.S.Calls.shown c.args.me.now) inv.0 (g.S.Calls.shown c.loop-key.me) inv.1 inv.2)
    (inr (c.key-item.result, Err c.in-Err-remove.why, yes, record { answers = c.in-Err-remove.ensures.answers; counts = c.in-Err-remove.ensures.counts }))

pub returns : goal.returns
returns g c =
    let inv = c.loop-key.invariant in
    let keys = c.deref-key-items.result.now in
    let T : List (List ℕ) → Type 0 = λ ks. AreTaken g.S.Calls.limits c.args.database ks inv.0 (g.S.Calls.shown c.loop-key.me) in
    (inv.0, keys, inv.1, subst T (take_all c.loop-key.key-index keys (omega (arith, c.loop-key-test.false))) inv.2)
