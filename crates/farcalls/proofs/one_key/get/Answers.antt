use Rattle.std.proofs.Common.{◌≡◌, inl, inr, ℕ, List, [], ◌∷◌, Option, Some, None, Ok, Err, subst}
use Rattle.table_core.specs.declared.operation.Operation.TheVariants as op
use Rattle.farcalls.specs.Sessions.{Makes}
use Rattle.farcalls.proofs.Handling.{stays_self, at_once, key_unmade}
use Rattle.farcalls.proofs.one_key.get.Goals as goal

pub returns-in-Err : goal.returns-in-Err
returns-in-Err g c = key_unmade g.S.Calls.limits [] (op.Get c.args.key.now) c.in-Err.why (g.S.Calls.shown c.args.me.now) (g.S.Calls.shown c.args.me.now) c.in-Err.ensures.fault (stays_self (g.S.Calls.shown c.args.me.now))

pub returns-in-Ok-get : goal.returns-in-Ok-get
returns-in-Ok-get g c =
    let M : List ℕ → Type 0 = λ k. Makes g.S.Calls.limits (op.Get k) (Ok c.in-Ok-get.found) (g.S.Calls.shown c.args.me.now) (g.S.Calls.shown c.get.new.self) in
    subst M c.in-Ok.ensures.text (at_once g.S.Calls.limits (op.Get c.in-Ok.key) (Ok c.in-Ok-get.found) (g.S.Calls.shown c.args.me.now) (g.S.Calls.shown c.get.new.self) c.in-Ok-get.ensures.answers c.in-Ok-get.ensures.counts)

pub returns : goal.returns
returns g c =
    let M : List ℕ → Type 0 = λ k. Makes g.S.Calls.limits (op.Get k) (Err c.in-Err-get.why) (g.S.Calls.shown c.args.me.now) (g.S.Calls.shown c.get.new.self) in
    inl (subst M c.in-Ok.ensures.text (at_once g.S.Calls.limits (op.Get c.in-Ok.key) (Err c.in-Err-get.why) (g.S.Calls.shown c.args.me.now) (g.S.Calls.shown c.get.new.self) c.in-Err-get.ensures.answers c.in-Err-get.ensures.counts))
