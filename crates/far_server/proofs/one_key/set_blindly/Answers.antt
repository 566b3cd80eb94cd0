use Rattle.std.proofs.Common.{ℕ, List, [], None, Ok, IsTrue, refl, ◌∙◌, subst, inl, inr}
use Rattle.resp.specs.Replies.{token}
use Rattle.table_core.specs.declared.operation.Operation.TheVariants as op
use Rattle.key_commands.specs.declared.key_command.Effect.{Effect}
use Rattle.key_commands.specs.declared.key_command.Effect.TheVariants as effects
use Rattle.key_commands.specs.Doing.{Does}
use Rattle.far_server.specs.Sessions.{Called}
use Rattle.far_server.specs.Keyed.{IsIdle}
use Rattle.far_server.proofs.Going.{no_step}
use Rattle.far_server.proofs.Pushed.{none}
use Rattle.far_server.proofs.one_key.set_blindly.Goals as goal

pub returns-in-Err : goal.returns-in-Err
returns-in-Err g c = ([], none c.args.reply.now.items c.apply_to.new.reply.items c.in-Err.ensures.kept, (g.S.Calls.shown c.args.me.now, no_step (IsIdle g.S.Calls.limits c.args.key.now) (g.S.Calls.shown c.args.me.now), inr refl))

pub returns-in-Err-from_bytes : goal.returns-in-Err-from_bytes
returns-in-Err-from_bytes g c =
    let d = c.in-Ok-Sets.ensures.done in
    (token d.0, d.1, (g.S.Calls.shown c.args.me.now, no_step (IsIdle g.S.Calls.limits c.args.key.now) (g.S.Calls.shown c.args.me.now), inr refl))

pub returns-in-Ok-put : goal.returns-in-Ok-put
returns-in-Ok-put g c =
    let d = c.in-Ok-Sets.ensures.done in
    let bytes = c.apply_to.new.stored.items in
    let is_blind : IsTrue c.is_blind.result = search in
    let D : Effect → Type 0 = λ e. Does c.args.asking.command c.args.asking.now c.args.asking.most None d.0 e bytes in
    let does : D effects.Sets = subst D c.in-Ok-Sets.field-0-is d.2 in
    let P : List ℕ → Type 0 = λ v. Called g.S.Calls.limits (g.S.Calls.shown c.args.me.now) (g.S.Calls.shown c.put.new.self) (op.Put c.args.key.now v) (Ok c.in-Ok-put.before) in
    let called : P bytes = subst P (c.in-Ok-from_bytes.ensures ∙ c.as_slice.ensures.value) (record { answers = c.in-Ok-put.ensures.answers; counts = c.in-Ok-put.ensures.counts }) in (
      token d.0,
      d.1,
      (
        d.0,
        refl,
        record { found = c.in-Ok-put.before; effect = effects.Sets; bytes = bytes; does = c.is_blind.ensures is_blind c.args.asking.now c.args.asking.most None c.in-Ok-put.before d.0 bytes does; makes = inr (refl, called) },
      ),
    )

pub returns : goal.returns
returns g c =
    let d = c.in-Ok-Sets.ensures.done in (
      token d.0,
      d.1,
      (
        g.S.Calls.shown c.args.me.now,
        no_step (IsIdle g.S.Calls.limits c.args.key.now) (g.S.Calls.shown c.args.me.now),
        inl (op.Put c.args.key.now _, refl, record { answers = c.in-Err-put.ensures.answers; counts = c.in-Err-put.ensures.counts }),
      ),
    )
