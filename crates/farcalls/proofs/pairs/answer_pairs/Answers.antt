use Rattle.std.proofs.Common.{◌≡◌, ◌+◌, ◌-◌, ◌*◌, inl, inr, Option, ℕ, pos, List, [], ◌∷◌, ◌++◌, length, refl, sym, ap, subst}
use Rattle.std.specs.Prelude.{OnOk, MatchOption}
use Rattle.std.specs.List.{flat_map}
use Rattle.resp.specs.Replies.{Token, Count, Number, token}
use Rattle.farcalls.specs.declared.pairs.Filled.{Filled}
use Rattle.farcalls.specs.Tokens.{pair_tokens}
use Rattle.farcalls.specs.Answers.{AreEmpty, IsFilled}
use Rattle.farcalls.proofs.Visiting.{pairs_handled}
use Rattle.farcalls.proofs.pairs.answer_pairs.Goals as goal

pub returns-in-Some : goal.returns-in-Some
returns-in-Some g c =
    let M : Option Filled → Type 0 = λ o. MatchOption o (AreEmpty g.S.Calls.limits c.args.from (g.S.Calls.limits.buckets - c.args.from) (g.S.Calls.shown c.args.me.now) (g.S.Calls.shown c.first_filled.new.me))
    (λ filled. (bucket : ℕ) × (filled.next ≡ bucket + 1) × IsFilled g.S.Calls.limits c.args.from bucket filled.pairs.items (g.S.Calls.shown c.args.me.now) (g.S.Calls.shown c.first_filled.new.me)) in
    let f = subst M c.in-Some.is c.in-Ok.ensures.found in
    let pairs = c.in-Some.filled.pairs.items in
    let old = c.args.out.now.items in
    let now = c.reply_pairs.new.out.items in
    let shown : ℕ → List (List ℕ × List ℕ) → List Token = λ next ps. Count (2 * length ps + 1) ∷ Number (pos next) ∷ flat_map pair_tokens ps in
    let O : List (List ℕ × List ℕ) → Type 0 = λ ps. OnOk c.reply_pairs.result (now ≡ old ++ flat_map token (shown c.in-Some.filled.next ps)) in
    pairs_handled g.S.Calls.limits c.args.from (g.S.Calls.shown c.args.me.now) (g.S.Calls.shown c.first_filled.new.me) old now (shown c.in-Some.filled.next pairs) c.reply_pairs.result
    (subst O c.as_slice.ensures.value c.reply_pairs.ensures.pushed) c.reply_pairs.ensures.kept c.reply_pairs.ensures.fault
    (inl (record { bucket = f.0; pairs = pairs; filled = f.2; reply = ap (λ (n : ℕ). shown n pairs) f.1 })) c.in-Ok.ensures.stays

pub returns-in-None : goal.returns-in-None
returns-in-None g c =
    let M : Option Filled → Type 0 = λ o. MatchOption o (AreEmpty g.S.Calls.limits c.args.from (g.S.Calls.limits.buckets - c.args.from) (g.S.Calls.shown c.args.me.now) (g.S.Calls.shown c.first_filled.new.me))
    (λ filled. (bucket : ℕ) × (filled.next ≡ bucket + 1) × IsFilled g.S.Calls.limits c.args.from bucket filled.pairs.items (g.S.Calls.shown c.args.me.now) (g.S.Calls.shown c.first_filled.new.me)) in
    let empty = subst M c.in-None.is c.in-Ok.ensures.found in
    let shown : ℕ → List Token = λ next. Count 1 ∷ Number (pos next) ∷ [] in
    pairs_handled g.S.Calls.limits c.args.from (g.S.Calls.shown c.args.me.now) (g.S.Calls.shown c.first_filled.new.me) c.args.out.now.items c.reply_pairs-in-None.new.out.items (shown c.buckets.result) c.reply_pairs-in-None.result
    c.reply_pairs-in-None.ensures.pushed c.reply_pairs-in-None.ensures.kept c.reply_pairs-in-None.ensures.fault
    (inr (record { empty = empty; reply = ap shown c.buckets.ensures })) c.in-Ok.ensures.stays
