use Rattle.std.proofs.Common.{◌≡◌, ◌≤◌, ◌+◌, ◌-◌, ℕ, true, false, List, [], ◌∷◌, ◌++◌, length, sym, refl, ap, subst, ◌∙◌, inl, inr, arith, length-append}
use Rattle.std.specs.List.{flat_map}
use Rattle.resp.specs.Replies.{Count, Failure, token}
use Rattle.commands.specs.Arguments.{listed}
use Rattle.far_map.specs.declared.refusal.MapRefusal.TheVariants as refusal
use Rattle.far_server.specs.Bounds.{longest, too_large}
use Rattle.far_server.specs.Refusing.{text_of}
use Rattle.far_server.specs.Many.{AreListed}
use Rattle.far_server.proofs.Pushed.{on_ok, cut, single, one_token, next_done, all_done}
use Rattle.far_server.proofs.Several.{listed_more}
use Rattle.far_server.proofs.several_keys.get_keys.Goals as goal

pub loop-key-init : goal.loop-key-init
loop-key-init g c =
    let old = c.args.reply.now.items in
    let new = c.push_count.new.out.items in
    let C : ℕ → Type 0 = λ n. new ≡ old ++ flat_map token (Count n ∷ []) in
    let now = single old (Count c.len.result) new c.in-Ok.ensures.items in
    let len : c.len-before.result ≡ length old = search in
    let total : length new ≡ length old + length (flat_map token (Count c.len.result ∷ [])) = ap (λ (l : List ℕ). length l) now ∙ length-append old (flat_map token (Count c.len.result ∷ [])) in
    (len, omega (arith, len, total), ([], subst C c.len.ensures now, ([], refl, (refl, refl))))

pub loop-key-preserved : goal.loop-key-preserved
loop-key-preserved g c =
    let inv = c.loop-key.invariant in
    let d = c.in-Ok-answer_next.ensures.done in
    let each = inv.2.0 in
    let old = c.args.reply.now.items in
    let mid = c.loop-key.reply.items in
    let head = Count (length (listed c.args.keys)) in
    let most = c.args.asking.most in
    let may : c.may_grow_to.result ≡ true = search in
    let within = c.may_grow_to.ensures.fits may in
    let total : length mid ≡ length old + length (flat_map token (head ∷ each)) = ap (λ (l : List ℕ). length l) inv.2.1 ∙ length-append old (flat_map token (head ∷ each)) in
    let parts : length (flat_map token (head ∷ each)) ≡ length (token head) + length (flat_map token each) = length-append (token head) (flat_map token each) in
    let fits : length (flat_map token each) + longest most ≤ c.args.limit - length (token head) = omega (arith, within, total, parts, inv.0) in
    let now : c.answer_next.new.reply.items ≡ mid ++ token d.0 = d.1 ∙ ap (λ (l : List ℕ). l ++ token d.0) c.has_room_for_short.ensures in
    let more : length c.answer_next.new.reply.items ≡ length mid + length (token d.0) = ap (λ (l : List ℕ). length l) now ∙ length-append mid (token d.0) in (
      inv.0,
      omega (arith, more, inv.1),
      (
        each ++ d.0 ∷ [],
        one_token old (head ∷ each) d.0 mid c.answer_next.new.reply.items inv.2.1 now,
        (
          inv.2.2.0 ++ c.in-Some.key.now ∷ [],
          next_done (listed c.args.keys) inv.2.2.0 (listed c.loop-key.rest) (listed c.in-Some.behind) (c.in-Some.key.now ∷ []) inv.2.2.1 c.in-Some.ensures,
          listed_more g.S.Calls.limits c.args.asking.keyspace c.args.asking.now most c.args.asking.command (c.args.limit - length (token head)) inv.2.2.0 c.in-Some.key.now each (g.S.Calls.shown c.args.me.now) (g.S.Calls.shown c.loop-key.me) (g.S.Calls.shown c.answer_next.new.me) d.0 inv.2.2.2 fits d.2,
        ),
      ),
    )

pub returns-then-not-may_grow_to : goal.returns-then-not-may_grow_to
returns-then-not-may_grow_to g c =
    let inv = c.loop-key.invariant in
    let each = inv.2.0 in
    let old = c.args.reply.now.items in
    let mid = c.loop-key.reply.items in
    let head = Count (length (listed c.args.keys)) in
    let may_not : c.may_grow_to.result ≡ false = search in
    let passes = c.may_grow_to.ensures.passes may_not in
    let total : length mid ≡ length old + length (flat_map token (head ∷ each)) = ap (λ (l : List ℕ). length l) inv.2.1 ∙ length-append old (flat_map token (head ∷ each)) in
    on_ok c.take_back.result (λ is. (
      Failure too_large ∷ [],
      is ∙ ap (λ (l : List ℕ). l ++ flat_map token (Failure too_large ∷ [])) (cut c.len-before.result old (flat_map token (head ∷ each)) mid inv.0 inv.2.1),
      inr (inl (record {
        before = inv.2.2.0;
        behind = listed c.loop-key.rest;
        each = each;
        split = inv.2.2.1;
        listed = inv.2.2.2;
        passes = omega (arith, passes, total, inv.0);
        reply = refl;
      })),
    )) c.take_back.ensures

pub returns-then-not-has_room_for_short : goal.returns-then-not-has_room_for_short
returns-then-not-has_room_for_short g c =
    let inv = c.loop-key.invariant in
    let each = inv.2.0 in
    let old = c.args.reply.now.items in
    let head = Count (length (listed c.args.keys)) in
    let told : c.text_of.result.now ≡ text_of refusal.Memory = c.text_of.ensures in
    on_ok c.take_back-then-not-has_room_for_short.result (λ is. (
      Failure (text_of refusal.Memory) ∷ [],
      (is ∙ ap (λ (l : List ℕ). l ++ flat_map token (Failure c.text_of.result.now ∷ [])) (cut c.len-before.result old (flat_map token (head ∷ each)) c.has_room_for_short.new.reply.items inv.0 (c.has_room_for_short.ensures ∙ inv.2.1)))
          ∙ ap (λ (t : List ℕ). old ++ flat_map token (Failure t ∷ [])) told,
      inr (inr (record {
        before = inv.2.2.0;
        behind = listed c.loop-key.rest;
        each = each;
        split = inv.2.2.1;
        listed = inv.2.2.2;
        reply = refl;
      })),
    )) c.take_back-then-not-has_room_for_short.ensures

pub returns : goal.returns
returns g c =
    let inv = c.loop-key.invariant in
    let head = Count (length (listed c.args.keys)) in
    let A : List (List ℕ) → Type 0 = λ ks. AreListed g.S.Calls.limits c.args.asking.keyspace c.args.asking.now c.args.asking.most c.args.asking.command (c.args.limit - length (token head)) ks inv.2.0 (g.S.Calls.shown c.args.me.now) (g.S.Calls.shown c.loop-key.me) in (
      head ∷ inv.2.0,
      inv.2.1,
      inl (inv.2.0, subst A (sym (all_done (listed c.args.keys) inv.2.2.0 (listed c.loop-key.rest) inv.2.2.1 c.in_default.ensures)) inv.2.2.2, refl),
    )
