use Rattle.std.proofs.Common.{◌≡◌, inl, inr, ℕ, List, [], ◌∷◌, Option, Some, None, Ok, Err, subst}
use Rattle.table_core.specs.declared.operation.Operation.TheVariants as op
use Rattle.farcalls.specs.Sessions.{Makes}
use Rattle.farcalls.proofs.Handling.{stays_self, in_room, pair_unmade, value_unmade}
use Rattle.farcalls.proofs.one_key.put_if.Goals as goal

pub returns-in-Err : goal.returns-in-Err
returns-in-Err g c = pair_unmade g.S.Calls.limits (c.args.expected.now ∷ c.args.value.now ∷ []) (op.PutIf c.args.key.now (Some c.args.expected.now) c.args.value.now) c.args.value.now (λ long. inr (inl long)) c.in-Err.why (g.S.Calls.shown c.args.me.now) (g.S.Calls.shown c.args.me.now) c.in-Err.ensures.fault (stays_self (g.S.Calls.shown c.args.me.now))

pub returns-in-Err-value_of : goal.returns-in-Err-value_of
returns-in-Err-value_of g c = value_unmade g.S.Calls.limits (c.args.expected.now ∷ c.args.value.now ∷ []) (op.PutIf c.args.key.now (Some c.args.expected.now) c.args.value.now) c.args.expected.now (λ long. inl long) c.in-Err-value_of.why (g.S.Calls.shown c.args.me.now) (g.S.Calls.shown c.args.me.now) c.in-Err-value_of.ensures.fault (stays_self (g.S.Calls.shown c.args.me.now))

pub returns-in-Ok-put_if : goal.returns-in-Ok-put_if
returns-in-Ok-put_if g c =
    let new = g.S.Calls.shown c.put_if.new.self in
    let M : List ℕ → List ℕ → List ℕ → Type 0 = λ k e v. Makes g.S.Calls.limits (op.PutIf k (Some e) v) (Ok c.in-Ok-put_if.found) (g.S.Calls.shown c.args.me.now) new in
    subst (λ (k : List ℕ). M k c.args.expected.now c.args.value.now) c.in-Ok.ensures.pair.0 (subst (λ (v : List ℕ). M c.in-Ok.pair.0 c.args.expected.now v) c.in-Ok.ensures.pair.1 (subst (λ (e : List ℕ). M c.in-Ok.pair.0 e c.in-Ok.pair.1) c.in-Ok-value_of.ensures.value
    (in_room g.S.Calls.limits (op.PutIf c.in-Ok.pair.0 (Some c.in-Ok-value_of.expected) c.in-Ok.pair.1) (Ok c.in-Ok-put_if.found) (g.S.Calls.shown c.args.me.now) (g.S.Calls.shown c.has_room.new.me) new c.has_room.ensures c.in-Ok-put_if.ensures.answers c.in-Ok-put_if.ensures.counts)))

pub returns : goal.returns
returns g c =
    let new = g.S.Calls.shown c.put_if.new.self in
    let M : List ℕ → List ℕ → List ℕ → Type 0 = λ k e v. Makes g.S.Calls.limits (op.PutIf k (Some e) v) (Err c.in-Err-put_if.why) (g.S.Calls.shown c.args.me.now) new in
    inl (subst (λ (k : List ℕ). M k c.args.expected.now c.args.value.now) c.in-Ok.ensures.pair.0 (subst (λ (v : List ℕ). M c.in-Ok.pair.0 c.args.expected.now v) c.in-Ok.ensures.pair.1 (subst (λ (e : List ℕ). M c.in-Ok.pair.0 e c.in-Ok.pair.1) c.in-Ok-value_of.ensures.value
    (in_room g.S.Calls.limits (op.PutIf c.in-Ok.pair.0 (Some c.in-Ok-value_of.expected) c.in-Ok.pair.1) (Err c.in-Err-put_if.why) (g.S.Calls.shown c.args.me.now) (g.S.Calls.shown c.has_room.new.me) new c.has_room.ensures c.in-Err-put_if.ensures.answers c.in-Err-put_if.ensures.counts))))
