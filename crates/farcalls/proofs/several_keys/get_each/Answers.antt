use Rattle.std.proofs.Common.{◌≡◌, ℕ, List, [], ◌∷◌, ◌++◌, length, Option, refl, sym, ap, subst, append-nil, ◌∙◌}
use Rattle.std.specs.Prelude.{map}
use Rattle.std.specs.List.{flat_map}
use Rattle.std.proofs.lemmas.List.{map-append}
use Rattle.resp.specs.Replies.{Token, Count, token}
use Rattle.commands.specs.Arguments.{listed}
use Rattle.farcalls.specs.Tokens.{value_token}
use Rattle.farcalls.specs.Answers.{AreCutOff}
use Rattle.far_blob.specs.Encodings.{enc_blob}
use Rattle.far_map.specs.Many.{AreGot}
use Rattle.farcalls.specs.Sessions.{Session}
use Rattle.farcalls.proofs.Pushed.{more_tokens, single, next_done, all_done, more_behind}
use Rattle.farcalls.proofs.Several.{got_more, cut_here, cut_later}
use Rattle.farcalls.proofs.several_keys.get_each.Goals as goal

pub returns-in-Err-clause-fault : goal.returns-in-Err-clause-fault
returns-in-Err-clause-fault g c = cut_here g.S.Calls.limits (listed c.args.keys) _ (g.S.Calls.shown c.args.me.now) refl

pub returns-in-Err-clause-more : goal.returns-in-Err-clause-more
returns-in-Err-clause-more g c = ([], c.in-Err.ensures.kept ∙ sym (append-nil c.args.out.now.items))

pub loop-first-init : goal.loop-first-init
loop-first-init g c =
    let old = c.args.out.now.items in
    let C : ℕ → Type 0 = λ n. c.push_count.new.out.items ≡ old ++ flat_map token (Count n ∷ []) in
    ([], refl, ([], subst C c.len-2.ensures (single old (Count c.len-2.result) c.push_count.new.out.items c.in-Ok.ensures.items), (refl, refl)))

pub loop-first-preserved : goal.loop-first-preserved
loop-first-preserved g c =
    let l = g.S.Calls.limits in
    let inv = c.loop-first.invariant in
    let got = c.in-Ok-next_values.ensures.got in
    let values = c.in-Ok-next_values.next.0.items in
    let head = Count (length (listed c.args.keys)) in
    let old = c.args.out.now.items in
    let pushed : c.push_values.new.out.items ≡ c.loop-first.out.items ++ flat_map token (map value_token values) = subst (λ (vs : List (Option (List ℕ))). c.push_values.new.out.items ≡ c.loop-first.out.items ++ flat_map token (map value_token vs)) c.as_slice.ensures.value c.in-Ok-push_values.ensures.pushed in
    let all = more_tokens old (head ∷ map value_token inv.2.0) (map value_token values) c.loop-first.out.items c.push_values.new.out.items inv.2.1 pushed in
    let T : List Token → Type 0 = λ ts. c.push_values.new.out.items ≡ old ++ flat_map token (head ∷ ts) in (
      inv.0 ++ got.0,
      next_done (listed c.args.keys) inv.0 (listed c.loop-first.rest) (listed c.in-Ok-next_values.next.1) got.0 inv.1 (c.in-Some.ensures ∙ got.1),
      (
        inv.2.0 ++ values,
        subst T (sym (map-append value_token inv.2.0 values)) all,
        got_more l inv.0 got.0 inv.2.0 values (g.S.Calls.shown c.args.me.now) (g.S.Calls.shown c.loop-first.me) (g.S.Calls.shown c.next_values.new.me) inv.2.2 got.2,
      ),
    )

pub returns-in-Err-next_values-clause-fault : goal.returns-in-Err-next_values-clause-fault
returns-in-Err-next_values-clause-fault g c =
    let l = g.S.Calls.limits in
    let inv = c.loop-first.invariant in
    let R : List (List ℕ) → Type 0 = λ ks. AreCutOff l ks c.in-Err-next_values.why (g.S.Calls.shown c.loop-first.me) (g.S.Calls.shown c.next_values.new.me) in
    cut_later l inv.0 (listed c.loop-first.rest) (listed c.args.keys) inv.2.0 c.in-Err-next_values.why (g.S.Calls.shown c.args.me.now) (g.S.Calls.shown c.loop-first.me) (g.S.Calls.shown c.next_values.new.me) inv.1 inv.2.2
    (subst R (sym c.in-Some.ensures) c.in-Err-next_values.ensures.fault)

pub returns-in-Err-next_values-clause-more : goal.returns-in-Err-next_values-clause-more
returns-in-Err-next_values-clause-more g c =
    let inv = c.loop-first.invariant in
    (flat_map token (Count (length (listed c.args.keys)) ∷ map value_token inv.2.0), inv.2.1)

pub returns-in-Err-push_values-clause-fault : goal.returns-in-Err-push_values-clause-fault
returns-in-Err-push_values-clause-fault g c =
    let l = g.S.Calls.limits in
    let inv = c.loop-first.invariant in
    let got = c.in-Ok-next_values.ensures.got in
    let values = c.in-Ok-next_values.next.0.items in
    let others = listed c.in-Ok-next_values.next.1 in
    let old = g.S.Calls.shown c.args.me.now in
    let new = g.S.Calls.shown c.next_values.new.me in
    cut_later l (inv.0 ++ got.0) others (listed c.args.keys) (inv.2.0 ++ values) c.in-Err-push_values.why old new new
    (next_done (listed c.args.keys) inv.0 (listed c.loop-first.rest) others got.0 inv.1 (c.in-Some.ensures ∙ got.1))
    (got_more l inv.0 got.0 inv.2.0 values old (g.S.Calls.shown c.loop-first.me) new inv.2.2 got.2)
    (cut_here l others c.in-Err-push_values.why new c.in-Err-push_values.ensures.fault)

pub returns-in-Err-push_values-clause-more : goal.returns-in-Err-push_values-clause-more
returns-in-Err-push_values-clause-more g c =
    let inv = c.loop-first.invariant in
    let first : List ℕ = flat_map token (Count (length (listed c.args.keys)) ∷ map value_token inv.2.0) in
    let m = c.push_values.ensures.more in
    (first ++ m.0, more_behind c.args.out.now.items first m.0 c.loop-first.out.items c.push_values.new.out.items inv.2.1 m.1)

pub returns-clause-got : goal.returns-clause-got
returns-clause-got g c =
    let inv = c.loop-first.invariant in
    let A : List (List ℕ) → Type 0 = λ ks. AreGot enc_blob g.S.Calls.limits ks inv.2.0 (g.S.Calls.shown c.args.me.now) (g.S.Calls.shown c.loop-first.me) in
    (inv.2.0, inv.2.1, subst A (sym (all_done (listed c.args.keys) inv.0 (listed c.loop-first.rest) inv.1 c.in_default.ensures)) inv.2.2)

pub returns-clause-more : goal.returns-clause-more
returns-clause-more g c =
    let inv = c.loop-first.invariant in
    (flat_map token (Count (length (listed c.args.keys)) ∷ map value_token inv.2.0), inv.2.1)
