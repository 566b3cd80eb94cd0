use Rattle.std.proofs.Common.{◌≡◌, ◌<◌, ◌≤◌, ◌+◌, ◌-◌, true, false, inl, inr, ℕ, List, [], ◌∷◌, ◌++◌, length, drop, replicate, refl, sym, ap, subst, ◌∙◌, arith, append-nil, length-append}
use Rattle.std.proofs.lemmas.List.{length-map, drop_all}
use Rattle.std.specs.List.{flat_map}
use Rattle.far_map.specs.declared.refusal.MapRefusal.TheVariants as refusal
use Rattle.resp.specs.Replies.{Token, Count, Failure, token}
use Rattle.far_server.specs.Bounds.{longest, too_large}
use Rattle.far_server.specs.Refusing.{text_of}
use Rattle.far_server.specs.Queues.{held, waiting}
use Rattle.far_server.specs.Answers.{AreRefused, AreWithoutMemory, AreExecuted}
use Rattle.far_server.proofs.Pushed.{on_ok, single, more_tokens}
use Rattle.far_server.specs.Runs.{IsRequest}
use Rattle.far_server.proofs.Executing.{GoesOn, ran_one, stopped, left_of, next_held}
use Rattle.far_server.proofs.transaction.execute.Goals as goal

pub loop-at-init : goal.loop-at-init
loop-at-init g c =
    let l = g.S.Calls.limits in
    let digest = c.args.context.now.settings.now.digest_keys in
    let v = c.args.context.now.settings.now.bounds in
    let old = c.args.reply.now.items in
    let new = c.push_count.new.out.items in
    let all = waiting c.args.queue.now in
    let mid = g.S.Calls.shown c.args.me.now in
    let head = Count (length all) in
    let C : ℕ → Type 0 = λ n. new ≡ old ++ flat_map token (Count n ∷ []) in
    let now = single old (Count (length c.requests-requests.result.now)) new c.in-Ok.ensures.items in
    let len : c.len-before.result ≡ length old = search in
    let count : length c.requests-requests.result.now ≡ length all = sym (length-map c.requests-requests.result.now held) ∙ ap (λ (ws : List (List (List ℕ))). length ws) c.requests-requests.ensures in
    let total : length new ≡ length old + length (flat_map token (Count (length c.requests-requests.result.now) ∷ [])) = ap (λ (l : List ℕ). length l) now ∙ length-append old (flat_map token (Count (length c.requests-requests.result.now) ∷ [])) in
    let whole : length (flat_map token (head ∷ [])) ≡ length (token head) = ap (λ (l : List ℕ). length l) (append-nil (token head)) in
    let selected = c.args.connection.now.selected in
    let start : GoesOn l digest v (v.longest_reply - length (token head)) all (v.longest_reply - length (flat_map token (head ∷ []))) all [] selected selected mid mid = λ rest last end ran. subst (λ (n : ℕ). AreExecuted l digest v (v.longest_reply - n) all rest selected last mid end) whole ran in
    ((refl, λ may. may), len, omega (arith, len, total), ([], subst C count now, start))

pub loop-at-preserved : goal.loop-at-preserved
loop-at-preserved g c =
    let inv = c.loop-at.invariant in
    let i = c.loop-at.at in
    let l = g.S.Calls.limits in
    let digest = c.args.context.now.settings.now.digest_keys in
    let v = c.args.context.now.settings.now.bounds in
    let all = waiting c.args.queue.now in
    let before = g.S.Calls.shown c.args.me.now in
    let mid = g.S.Calls.shown c.loop-at.me in
    let new = g.S.Calls.shown c.run_waiting.new.me in
    let d = c.in-Ok-run_waiting.ensures.ran in
    let each = inv.3.0 in
    let head = Count (length all) in
    let old = c.args.reply.now.items in
    let said = c.loop-at.reply.items in
    let now : c.run_waiting.new.reply.items ≡ said ++ flat_map token d.0 = d.1 ∙ ap (λ (bytes : List ℕ). bytes ++ flat_map token d.0) c.has_room_for_short.ensures in
    let total : length said ≡ length old + length (flat_map token (head ∷ each)) = ap (λ (bytes : List ℕ). length bytes) inv.3.1 ∙ length-append old (flat_map token (head ∷ each)) in
    let more : length c.run_waiting.new.reply.items ≡ length said + length (flat_map token d.0) = ap (λ (bytes : List ℕ). length bytes) now ∙ length-append said (flat_map token d.0) in
    let all_said : c.run_waiting.new.reply.items ≡ old ++ flat_map token ((head ∷ each) ++ d.0) = more_tokens old (head ∷ each) d.0 said c.run_waiting.new.reply.items inv.3.1 now in
    let all_total : length c.run_waiting.new.reply.items ≡ length old + length (flat_map token ((head ∷ each) ++ d.0)) = ap (λ (bytes : List ℕ). length bytes) all_said ∙ length-append old (flat_map token ((head ∷ each) ++ d.0)) in
    let may : c.may_grow_to.result ≡ true = search in
    let len : c.len.result ≡ length said = search in
    let within = c.may_grow_to.ensures.fits may in
    let used : c.len.result - c.len-before.result ≡ length (flat_map token (head ∷ each)) = omega (arith, len, total, inv.1) in
    let fits : longest v.longest_value ≤ v.longest_reply - length (flat_map token (head ∷ each)) = omega (arith, within, used) in
    let smaller : v.longest_reply - length (flat_map token (head ∷ (each ++ d.0))) ≡ (v.longest_reply - length (flat_map token (head ∷ each))) - length (flat_map token d.0) = omega (arith, all_total, more, total) in
    let item = c.index-requests-at.result in
    let first = c.args.connection.now.selected in
    let was = c.loop-at.connection.selected in
    let is = c.run_waiting.new.connection.selected in
    let ran : IsRequest l digest v (v.longest_reply - length (flat_map token (head ∷ each))) was is (held item) mid new d.0 = subst (λ (n : ℕ). IsRequest l digest v (v.longest_reply - n) was is (held item) mid new d.0) used d.2 in
    let lt : i < length c.requests-requests.result.now = c.loop-at-test.true in (
      (c.in-Ok-run_waiting.ensures.queue ∙ inv.0.0, λ may. c.in-Ok-run_waiting.ensures.stays (inv.0.1 may)),
      inv.1,
      omega (arith, more, inv.2),
      (
        each ++ d.0,
        all_said,
        ran_one l digest v (v.longest_reply - length (token head)) all (v.longest_reply - length (flat_map token (head ∷ each))) (v.longest_reply - length (flat_map token (head ∷ (each ++ d.0)))) (held item) (drop i all) (drop (i + 1) all) each d.0 first was is before mid new
            (next_held c.requests-requests.result.now all i item c.requests-requests.ensures lt c.index-requests-at.is) smaller fits ran inv.3.2,
      ),
    )

pub returns-then-not-may_grow_to-clause-ran : goal.returns-then-not-may_grow_to-clause-ran
returns-then-not-may_grow_to-clause-ran g c =
    let inv = c.loop-at.invariant in
    let i = c.loop-at.at in
    let l = g.S.Calls.limits in
    let digest = c.args.context.now.settings.now.digest_keys in
    let v = c.args.context.now.settings.now.bounds in
    let all = waiting c.args.queue.now in
    let mid = g.S.Calls.shown c.loop-at.me in
    let each = inv.3.0 in
    let head = Count (length all) in
    let old = c.args.reply.now.items in
    let said = c.loop-at.reply.items in
    let count = length c.requests-requests.result.now - i in
    let may_not : c.may_grow_to.result ≡ false = search in
    let passes = c.may_grow_to.ensures.passes may_not in
    let len : c.len.result ≡ length said = search in
    let total : length said ≡ length old + length (flat_map token (head ∷ each)) = ap (λ (bytes : List ℕ). length bytes) inv.3.1 ∙ length-append old (flat_map token (head ∷ each)) in
    let past : v.longest_reply - length (flat_map token (head ∷ each)) < longest v.longest_value = omega (arith, passes, len, total, inv.1) in
    let left = left_of c.requests-requests.result.now all i c.requests-requests.ensures in
    let rs = replicate count (Failure too_large) in
    let refused : AreRefused l digest v (v.longest_reply - length (flat_map token (head ∷ each))) (length (drop i all)) mid mid rs = record { passes = past; untouched = refl; reply = ap (λ (n : ℕ). replicate n (Failure too_large)) (sym left) } in
    let there = stopped l digest v (v.longest_reply - length (flat_map token (head ∷ each))) (drop i all) rs c.loop-at.connection.selected mid (omega (arith, left, c.loop-at-test.true)) (inl refused) in
    on_ok c.push_failures.result (λ is. (head ∷ (each ++ rs), more_tokens old (head ∷ each) rs said c.push_failures.new.reply.items inv.3.1 is, (each ++ rs, inv.3.2 rs c.loop-at.connection.selected mid there, refl))) c.push_failures.ensures

pub returns-then-not-has_room_for_short-clause-ran : goal.returns-then-not-has_room_for_short-clause-ran
returns-then-not-has_room_for_short-clause-ran g c =
    let inv = c.loop-at.invariant in
    let i = c.loop-at.at in
    let l = g.S.Calls.limits in
    let digest = c.args.context.now.settings.now.digest_keys in
    let v = c.args.context.now.settings.now.bounds in
    let all = waiting c.args.queue.now in
    let mid = g.S.Calls.shown c.loop-at.me in
    let each = inv.3.0 in
    let head = Count (length all) in
    let old = c.args.reply.now.items in
    let count = length c.requests-requests.result.now - i in
    let left = left_of c.requests-requests.result.now all i c.requests-requests.ensures in
    let rs = replicate count (Failure (text_of refusal.Memory)) in
    let refused : AreWithoutMemory l digest v (length (drop i all)) mid mid rs = record { untouched = refl; reply = ap (λ (n : ℕ). replicate n (Failure (text_of refusal.Memory))) (sym left) } in
    let there = stopped l digest v (v.longest_reply - length (flat_map token (head ∷ each))) (drop i all) rs c.loop-at.connection.selected mid (omega (arith, left, c.loop-at-test.true)) (inr refused) in
    let said = c.has_room_for_short.ensures ∙ inv.3.1 in
    let told : c.text_of.result.now ≡ text_of refusal.Memory = c.text_of.ensures in
    on_ok c.push_failures-then-not-has_room_for_short.result (λ is.
    let as_told = is ∙ ap (λ (t : List ℕ). c.has_room_for_short.new.reply.items ++ flat_map token (replicate count (Failure t))) told in
    (head ∷ (each ++ rs), more_tokens old (head ∷ each) rs c.has_room_for_short.new.reply.items c.push_failures-then-not-has_room_for_short.new.reply.items said as_told, (each ++ rs, inv.3.2 rs c.loop-at.connection.selected mid there, refl))) c.push_failures-then-not-has_room_for_short.ensures

pub returns-clause-ran : goal.returns-clause-ran
returns-clause-ran g c =
    let inv = c.loop-at.invariant in
    let l = g.S.Calls.limits in
    let digest = c.args.context.now.settings.now.digest_keys in
    let v = c.args.context.now.settings.now.bounds in
    let all = waiting c.args.queue.now in
    let before = g.S.Calls.shown c.args.me.now in
    let mid = g.S.Calls.shown c.loop-at.me in
    let each = inv.3.0 in
    let head = Count (length all) in
    let count : length c.requests-requests.result.now ≡ length all = sym (length-map c.requests-requests.result.now held) ∙ ap (λ (ws : List (List (List ℕ))). length ws) c.requests-requests.ensures in
    let none_left : drop c.loop-at.at all ≡ [] = drop_all c.loop-at.at all (omega (arith, count, c.loop-at-test.false)) in
    let limit = v.longest_reply - length (flat_map token (head ∷ each)) in
    let selected = c.loop-at.connection.selected in
    let ended : AreExecuted l digest v limit (drop c.loop-at.at all) [] selected selected mid mid = subst (λ (ws : List (List (List ℕ))). AreExecuted l digest v limit ws [] selected selected mid mid) (sym none_left) (refl, refl, refl) in (
      head ∷ each,
      inv.3.1,
      (each, subst (λ (ts : List Token). AreExecuted l digest v (v.longest_reply - length (token head)) all ts c.args.connection.now.selected selected before mid) (append-nil each) (inv.3.2 [] selected mid ended), refl),
    )
