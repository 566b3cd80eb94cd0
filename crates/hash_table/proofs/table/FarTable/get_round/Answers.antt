use Rattle.std.proofs.Common.{subst}
use mathlib.Core.List.{IsPrefix}
use Rattle.hash_table.proofs.Fronts.{goes_trans}
use Rattle.hash_table.proofs.table.FarTable.get_round.Goals as goal

pub returns-in-Ok-get_far-clause-limbo : goal.returns-in-Ok-get_far-clause-limbo
returns-in-Ok-get_far-clause-limbo g c = subst (λ spares. IsPrefix spares c.get_far.new.caller.limbo) c.try_get.ensures.limbo c.get_far.ensures.limbo

pub returns-in-Err-get_far-clause-limbo : goal.returns-in-Err-get_far-clause-limbo
returns-in-Err-get_far-clause-limbo g c = subst (λ spares. IsPrefix spares c.get_far.new.caller.limbo) c.try_get.ensures.limbo c.get_far.ensures.limbo

pub returns-in-Err-get_far-clause-goes : goal.returns-in-Err-get_far-clause-goes
returns-in-Err-get_far-clause-goes g c = goes_trans c.in-Err-Far.ensures.goes c.in-Err-get_far.ensures.goes
