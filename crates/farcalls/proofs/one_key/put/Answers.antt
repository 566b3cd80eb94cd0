use Rattle.std.proofs.Common.{◌≡◌, inl, inr, ℕ, List, [], ◌∷◌, Option, Some, None, Ok, Err, subst}
use Rattle.table_core.specs.declared.operation.Operation.TheVariants as op
use Rattle.farcalls.specs.Sessions.{Makes}
use Rattle.farcalls.proofs.Handling.{stays_self, in_room, pair_unmade}
use Rattle.farcalls.proofs.one_key.put.Goals as goal

pub returns-in-Err : goal.returns-in-Err
returns-in-Err g c = pair_unmade g.S.Calls.limits (c.args.value.now ∷ []) (op.Put c.args.key.now c.args.value.now) c.args.value.now (λ long. inl long) c.in-Err.why (g.S.Calls.shown c.args.me.now) (g.S.Calls.shown c.args.me.now) c.in-Err.ensures.fault (stays_self (g.S.Calls.shown c.args.me.now))

pub returns-in-Ok-put : goal.returns-in-Ok-put
returns-in-Ok-put g c =
    let new = g.S.Calls.shown c.put.new.self in
    let M : List ℕ → List ℕ → Type 0 = λ k v. Makes g.S.Calls.limits (op.Put k v) (Ok c.in-Ok-put.before) (g.S.Calls.shown c.args.me.now) new in
    subst (λ (k : List ℕ). M k c.args.value.now) c.in-Ok.ensures.pair.0 (subst (λ (v : List ℕ). M c.in-Ok.pair.0 v) c.in-Ok.ensures.pair.1
    (in_room g.S.Calls.limits (op.Put c.in-Ok.pair.0 c.in-Ok.pair.1) (Ok c.in-Ok-put.before) (g.S.Calls.shown c.args.me.now) (g.S.Calls.shown c.has_room.new.me) new c.has_room.ensures c.in-Ok-put.ensures.answers c.in-Ok-put.ensures.counts))

pub returns : goal.returns
returns g c =
    let new = g.S.Calls.shown c.put.new.self in
    let M : List ℕ → List ℕ → Type 0 = λ k v. Makes g.S.Calls.limits (op.Put k v) (Err c.in-Err-put.why) (g.S.Calls.shown c.args.me.now) new in
    inl (subst (λ (k : List ℕ). M k c.args.value.now) c.in-Ok.ensures.pair.0 (subst (λ (v : List ℕ). M c.in-Ok.pair.0 v) c.in-Ok.ensures.pair.1
    (in_room g.S.Calls.limits (op.Put c.in-Ok.pair.0 c.in-Ok.pair.1) (Err c.in-Err-put.why) (g.S.Calls.shown c.args.me.now) (g.S.Calls.shown c.has_room.new.me) new c.has_room.ensures c.in-Err-put.ensures.answers c.in-Err-put.ensures.counts)))
