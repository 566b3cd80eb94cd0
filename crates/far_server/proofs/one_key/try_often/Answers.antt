use Rattle.std.proofs.Common.{◌≡◌, ℕ, Bool, false, List, ◌++◌, Ok, ap, subst, ◌∙◌}
use Rattle.far_server.specs.Keyed.{IsIdle, IsTried}
use Rattle.far_server.proofs.Going.{both}
use Rattle.far_server.proofs.Pushed.{cut}
use Rattle.far_server.proofs.one_key.try_often.Goals as goal

pub returns-in-Err-try_once : goal.returns-in-Err-try_once
returns-in-Err-try_once g c =
    let inv = c.loop.invariant in
    let before = c.args.reply.now.items in
    let cleared : c.truncate.new.self.items ≡ before = c.truncate.ensures.items ∙ cut c.len-before.result before inv.0.0 c.loop.reply.items inv.1 inv.0.1 in
    let e = c.in-Err-try_once.ensures in (
      e.0,
      e.1 ∙ ap (λ (l : List ℕ). l ++ e.0) cleared,
      (
        e.2.0,
        both (IsIdle g.S.Calls.limits c.args.key.now) (g.S.Calls.shown c.args.me.now) (g.S.Calls.shown c.loop.me) e.2.0 inv.2 e.2.1,
        e.2.2,
      ),
    )

pub loop-preserved : goal.loop-preserved
loop-preserved g c =
    let inv = c.loop.invariant in
    let before = c.args.reply.now.items in
    let cleared : c.truncate.new.self.items ≡ before = c.truncate.ensures.items ∙ cut c.len-before.result before inv.0.0 c.loop.reply.items inv.1 inv.0.1 in
    let e = c.in-Ok-false-try_once.ensures in
    let T : Bool → Type 0 = λ b. IsTried g.S.Calls.limits c.args.key.now c.args.asking.command c.args.asking.now c.args.asking.most (g.S.Calls.shown c.loop.me) (g.S.Calls.shown c.try_once.new.me) e.0 (Ok b) in
    let idles : T false = subst T c.in-Ok-false-try_once.field-0-test e.2 in (
      (e.0, e.1 ∙ ap (λ (l : List ℕ). l ++ e.0) cleared),
      inv.1,
      both (IsIdle g.S.Calls.limits c.args.key.now) (g.S.Calls.shown c.args.me.now) (g.S.Calls.shown c.loop.me) (g.S.Calls.shown c.try_once.new.me) inv.2 idles,
    )
