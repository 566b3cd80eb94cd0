use Rattle.std.proofs.Common.{◌≡◌, ℕ, List, [], Option, refl, subst, inl, inr}
use Rattle.resp.specs.Replies.{token}
use Rattle.table_core.specs.declared.operation.Operation.TheVariants as op
use Rattle.table_core.specs.Lent.{lent_value}
use Rattle.key_commands.specs.Doing.{Does}
use Rattle.far_server.specs.Keyed.{IsIdle, IsSettled}
use Rattle.far_server.proofs.Trying.{one_get, tried}
use Rattle.far_server.proofs.Going.{no_step}
use Rattle.far_server.proofs.Pushed.{none}
use Rattle.far_server.proofs.one_key.try_once.Goals as goal

pub returns-in-Err : goal.returns-in-Err
returns-in-Err g c = (
  [],
  none c.args.reply.now.items c.args.reply.now.items refl,
  (
    g.S.Calls.shown c.args.me.now,
    no_step (IsIdle g.S.Calls.limits c.args.key.now) (g.S.Calls.shown c.args.me.now),
    inl (op.Get c.args.key.now, refl, record { answers = c.in-Err.ensures.answers; counts = c.in-Err.ensures.counts }),
  ),
)

pub returns-in-Ok-apply_to : goal.returns-in-Ok-apply_to
returns-in-Ok-apply_to g c =
    let d = c.in-Ok-apply_to.ensures.done in
    let found = c.in-Ok.found in
    let effect = c.in-Ok-apply_to.effect in
    let bytes = c.apply_to.new.stored.items in
    let first : lent_value c.as_ref.result ≡ found = c.as_ref.ensures.value in
    let second : lent_value c.as_ref-in-Ok-apply_to.result ≡ found = c.as_ref-in-Ok-apply_to.ensures.value in
    let D : Option (List ℕ) → Type 0 = λ f. Does c.args.asking.command c.args.asking.now c.args.asking.most f d.0 effect bytes in
    let Q : Option (List ℕ) → Type 0 = λ f. IsSettled g.S.Calls.limits c.args.key.now f effect bytes (g.S.Calls.shown c.get.new.self) (g.S.Calls.shown c.settle.new.me) c.settle.result in (
      token d.0,
      d.1,
      tried g.S.Calls.limits c.args.key.now c.args.asking.command c.args.asking.now c.args.asking.most (g.S.Calls.shown c.args.me.now) (g.S.Calls.shown c.get.new.self) (g.S.Calls.shown c.settle.new.me) found effect bytes d.0 c.settle.result
          (record { answers = c.in-Ok.ensures.answers; counts = c.in-Ok.ensures.counts }) (subst D first d.2) (subst Q second c.settle.ensures),
    )

pub returns : goal.returns
returns g c = (
  [],
  none c.args.reply.now.items c.apply_to.new.reply.items c.in-Err-apply_to.ensures.kept,
  (
    g.S.Calls.shown c.get.new.self,
    one_get g.S.Calls.limits c.args.key.now (g.S.Calls.shown c.args.me.now) (g.S.Calls.shown c.get.new.self) c.in-Ok.found (record { answers = c.in-Ok.ensures.answers; counts = c.in-Ok.ensures.counts }),
    inr refl,
  ),
)
