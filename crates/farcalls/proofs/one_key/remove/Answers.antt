use Rattle.std.proofs.Common.{◌≡◌, inl, inr, ℕ, List, [], ◌∷◌, Option, Some, None, Ok, Err, subst}
use Rattle.table_core.specs.declared.operation.Operation.TheVariants as op
use Rattle.farcalls.specs.Sessions.{Makes}
use Rattle.farcalls.proofs.Handling.{stays_self, at_once, key_unmade}
use Rattle.farcalls.proofs.one_key.remove.Goals as goal

pub returns-in-Err : goal.returns-in-Err
returns-in-Err g c = key_unmade g.S.Calls.limits [] (op.Remove c.args.key.now) c.in-Err.why (g.S.Calls.shown c.args.me.now) (g.S.Calls.shown c.args.me.now) c.in-Err.ensures.fault (stays_self (g.S.Calls.shown c.args.me.now))

pub returns-in-Ok-remove : goal.returns-in-Ok-remove
returns-in-Ok-remove g c =
    let M : List ℕ → Type 0 = λ k. Makes g.S.Calls.limits (op.Remove k) (Ok c.in-Ok-remove.before) (g.S.Calls.shown c.args.me.now) (g.S.Calls.shown c.remove.new.self) in
    subst M c.in-Ok.ensures.text (at_once g.S.Calls.limits (op.Remove c.in-Ok.key) (Ok c.in-Ok-remove.before) (g.S.Calls.shown c.args.me.now) (g.S.Calls.shown c.remove.new.self) c.in-Ok-remove.ensures.answers c.in-Ok-remove.ensures.counts)

pub returns : goal.returns
returns g c =
    let M : List ℕ → Type 0 = λ k. Makes g.S.Calls.limits (op.Remove k) (Err c.in-Err-remove.why) (g.S.Calls.shown c.args.me.now) (g.S.Calls.shown c.remove.new.self) in
    inl (subst M c.in-Ok.ensures.text (at_once g.S.Calls.limits (op.Remove c.in-Ok.key) (Err c.in-Err-remove.why) (g.S.Calls.shown c.args.me.now) (g.S.Calls.shown c.remove.new.self) c.in-Err-remove.ensures.answers c.in-Err-remove.ensures.counts))
