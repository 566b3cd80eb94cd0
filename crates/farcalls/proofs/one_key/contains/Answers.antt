use Rattle.std.proofs.Common.{◌≡◌, inl, inr, ℕ, List, [], ◌∷◌, Option, Some, None, Ok, Err, subst}
use Rattle.table_core.specs.declared.operation.Operation.TheVariants as op
use Rattle.farcalls.specs.Sessions.{Makes}
use Rattle.farcalls.proofs.Handling.{stays_self, key_unmade, found_so, not_found}
use Rattle.farcalls.proofs.one_key.contains.Goals as goal
use Rattle.farcalls.specs.Calls.{IsFlagCalled}
use Rattle.farcalls.specs.declared.refusal.Unanswered.TheVariants as unanswered

pub returns-in-Err : goal.returns-in-Err
returns-in-Err g c = key_unmade g.S.Calls.limits [] (op.Get c.args.key.now) c.in-Err.why (g.S.Calls.shown c.args.me.now) (g.S.Calls.shown c.args.me.now) c.in-Err.ensures.fault (stays_self (g.S.Calls.shown c.args.me.now))

pub returns-in-Ok-contains : goal.returns-in-Ok-contains
returns-in-Ok-contains g c =
    let F : List ℕ → Type 0 = λ k. IsFlagCalled g.S.Calls.limits [] (op.Get k) (g.S.Calls.shown c.args.me.now) (g.S.Calls.shown c.contains.new.self) (Ok c.in-Ok-contains.flag) in
    subst F c.in-Ok.ensures.text (found_so g.S.Calls.limits c.in-Ok.key (g.S.Calls.shown c.args.me.now) (g.S.Calls.shown c.contains.new.self) c.in-Ok-contains.flag c.in-Ok-contains.ensures.found c.in-Ok-contains.ensures.counts)

pub returns : goal.returns
returns g c =
    let F : List ℕ → Type 0 = λ k. IsFlagCalled g.S.Calls.limits [] (op.Get k) (g.S.Calls.shown c.args.me.now) (g.S.Calls.shown c.contains.new.self) (Err (unanswered.Refused c.in-Err-contains.why)) in
    subst F c.in-Ok.ensures.text (not_found g.S.Calls.limits c.in-Ok.key (g.S.Calls.shown c.args.me.now) (g.S.Calls.shown c.contains.new.self) c.in-Err-contains.why c.in-Err-contains.ensures.found c.in-Err-contains.ensures.counts)
