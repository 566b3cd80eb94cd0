use Rattle.std.proofs.Common.{ℕ, List, rules, subst}
use Rattle.std.specs.Fn.{FnOnceReturnsAt}
use Rattle.table_core.specs.declared.operation.Operation.TheVariants.{Get}
use Rattle.far_map.proofs.Trying.{read_none, read_some, read_scope, refused_from}
use Rattle.far_map.proofs.Losses.{loses_trans, came}
use Rattle.far_map.proofs.reads.read_value.Goals as goal

pub returns-in-Ok-None-copy_value-clause-read : goal.returns-in-Ok-None-copy_value-clause-read
returns-in-Ok-None-copy_value-clause-read g c =
    read_none g.V.FarObject.enc g.J.Naming.limits c.args.map.now.table.limit c.args.session_state.now.caller.pass c.open_near.new.caller.pass c.copy_value.new.caller.pass c.args.key.now c.in-Ok-None-copy_value.field-0 (search rules)
    c.in-Err.ensures.tries.goes c.in-Ok-None-copy_value.ensures.answers

pub returns-in-Ok-Some-copy_value-clause-read : goal.returns-in-Ok-Some-copy_value-clause-read
returns-in-Ok-Some-copy_value-clause-read g c =
    read_some g.V.FarObject.enc g.J.Naming.limits c.args.map.now.table.limit c.args.session_state.now.caller.pass c.open_near.new.caller.pass c.copy_value.new.caller.pass c.args.key.now (λ v. FnOnceReturnsAt g.F.FnOnce c.args.read (g.V.Value.shows v))
    c.in-Ok-Some-copy_value.field-0 c.in-Ok-Some-copy_value.value c.read_bytes.result (search rules) c.in-Err.ensures.tries.goes c.in-Ok-Some-copy_value.ensures.answers (subst (λ (bytes : List ℕ). FnOnceReturnsAt g.F.FnOnce c.args.read bytes c.read_bytes.result) c.as_bytes.ensures c.read_bytes.ensures)

pub returns-in-Ok-None-clause-none_lost : goal.returns-in-Ok-None-clause-none_lost
returns-in-Ok-None-clause-none_lost g c = came _ _ _ c.open_near.ensures.limbo

pub returns-in-Ok-Some-clause-none_lost : goal.returns-in-Ok-Some-clause-none_lost
returns-in-Ok-Some-clause-none_lost g c = came _ _ _ c.open_near.ensures.limbo

pub returns-in-Ok-None-copy_value-clause-none_lost : goal.returns-in-Ok-None-copy_value-clause-none_lost
returns-in-Ok-None-copy_value-clause-none_lost g c = loses_trans _ _ _ _ _ _ (came _ _ _ c.open_near.ensures.limbo) (came _ _ _ c.copy_value.ensures.limbo)

pub returns-in-Ok-Some-copy_value-clause-none_lost : goal.returns-in-Ok-Some-copy_value-clause-none_lost
returns-in-Ok-Some-copy_value-clause-none_lost g c = loses_trans _ _ _ _ _ _ (came _ _ _ c.open_near.ensures.limbo) (came _ _ _ c.copy_value.ensures.limbo)

pub returns-in-Err-copy_value-clause-none_lost : goal.returns-in-Err-copy_value-clause-none_lost
returns-in-Err-copy_value-clause-none_lost g c = loses_trans _ _ _ _ _ _ (came _ _ _ c.open_near.ensures.limbo) (came _ _ _ c.copy_value.ensures.limbo)

pub returns-in-Ok-Some-clause-read : goal.returns-in-Ok-Some-clause-read
returns-in-Ok-Some-clause-read g c = (
  c.read_held.ensures.0,
  read_scope g.V.FarObject.enc g.J.Naming.limits c.args.map.now.table.limit c.args.session_state.now.caller.pass c.open_near.new.caller.pass c.args.key.now c.read_held.ensures.0 c.in-Ok-Some.scope.value (search rules) (rw c.in-Ok-Some.field-0-is at c.in-Ok-Some.ensures.tries),
  c.read_held.ensures.2,
)

pub returns-in-Err-copy_value-clause-read : goal.returns-in-Err-copy_value-clause-read
returns-in-Err-copy_value-clause-read g c =
    refused_from g.V.FarObject.enc g.J.Naming.limits c.args.map.now.table.limit c.args.session_state.now.caller.pass c.open_near.new.caller.pass c.copy_value.new.caller.pass (Get c.args.key.now) c.in-Err-copy_value.refusal c.in-Err.ensures.tries.goes c.in-Err-copy_value.ensures.answers
