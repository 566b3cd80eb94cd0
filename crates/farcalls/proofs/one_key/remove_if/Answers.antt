use Rattle.std.proofs.Common.{◌≡◌, inl, inr, ℕ, List, [], ◌∷◌, Option, Some, None, Ok, Err, subst}
use Rattle.table_core.specs.declared.operation.Operation.TheVariants as op
use Rattle.farcalls.specs.Sessions.{Makes}
use Rattle.farcalls.proofs.Handling.{stays_self, pair_unmade, removed_so, not_removed}
use Rattle.farcalls.proofs.one_key.remove_if.Goals as goal
use Rattle.farcalls.specs.Calls.{IsRemoved}
use Rattle.farcalls.specs.declared.refusal.Unanswered.TheVariants as unanswered

pub returns-in-Err : goal.returns-in-Err
returns-in-Err g c = pair_unmade g.S.Calls.limits (c.args.expected.now ∷ []) (op.Remove c.args.key.now) c.args.expected.now (λ long. inl long) c.in-Err.why (g.S.Calls.shown c.args.me.now) (g.S.Calls.shown c.args.me.now) c.in-Err.ensures.fault (stays_self (g.S.Calls.shown c.args.me.now))

pub returns-in-Ok-remove_if : goal.returns-in-Ok-remove_if
returns-in-Ok-remove_if g c =
    let new = g.S.Calls.shown c.remove_if.new.self in
    let M : List ℕ → List ℕ → Type 0 = λ k e. IsRemoved g.S.Calls.limits k e (g.S.Calls.shown c.args.me.now) new (Ok c.in-Ok-remove_if.removal) in
    subst (λ (k : List ℕ). M k c.args.expected.now) c.in-Ok.ensures.pair.0 (subst (λ (e : List ℕ). M c.in-Ok.pair.0 e) c.in-Ok.ensures.pair.1
    (removed_so g.S.Calls.limits c.in-Ok.pair.0 c.in-Ok.pair.1 (g.S.Calls.shown c.args.me.now) new c.in-Ok-remove_if.removal c.in-Ok-remove_if.ensures.met c.in-Ok-remove_if.ensures.answers c.in-Ok-remove_if.ensures.counts))

pub returns : goal.returns
returns g c =
    let new = g.S.Calls.shown c.remove_if.new.self in
    let M : List ℕ → List ℕ → Type 0 = λ k e. IsRemoved g.S.Calls.limits k e (g.S.Calls.shown c.args.me.now) new (Err (unanswered.Refused c.in-Err-remove_if.why)) in
    subst (λ (k : List ℕ). M k c.args.expected.now) c.in-Ok.ensures.pair.0 (subst (λ (e : List ℕ). M c.in-Ok.pair.0 e) c.in-Ok.ensures.pair.1
    (not_removed g.S.Calls.limits c.in-Ok.pair.0 c.in-Ok.pair.1 (g.S.Calls.shown c.args.me.now) new c.in-Err-remove_if.why c.in-Err-remove_if.ensures.answers c.in-Err-remove_if.ensures.counts))
