use Rattle.std.proofs.Common.{[], sym, ◌∙◌, refl, arith}
use Rattle.plain_run.proofs.Calls.{opened}
use Rattle.plain_run.proofs.table.PlainTable.open.Goals as goal

pub returns-in-Ok-empty_objects-clause-stands : goal.returns-in-Ok-empty_objects-clause-stands
returns-in-Ok-empty_objects-clause-stands c =
    opened _ c.in-Ok.machine c.in-Ok-enter.field-0 c.in-Ok.ensures.stands (c.in-Ok-enter.ensures.ok _ c.in-Ok.ensures.stands)
    (sym c.in-Ok-empty_objects.objects.ok.0 ∙ (c.in-Ok-empty_objects.ensures.count ∙ sym c.in-Ok.ensures.buckets)) c.in-Ok-empty_objects.ensures.empty c.requires.limited

pub returns-in-Ok-empty_objects-clause-settings : goal.returns-in-Ok-empty_objects-clause-settings
returns-in-Ok-empty_objects-clause-settings c =
    let on = c.in-Ok-enter.ensures.ok _ c.in-Ok.ensures.stands in
    (on.buckets ∙ c.in-Ok.ensures.buckets, refl)

pub unreachable-requires : goal.unreachable-requires
unreachable-requires c =
    let refused = c.in-Err-enter.ensures.refused [] c.in-Ok.ensures.stands in
    let breaks = rw c.in-Err-enter.ensures.only at refused.breaks in
    breaks (omega arith, omega arith)
