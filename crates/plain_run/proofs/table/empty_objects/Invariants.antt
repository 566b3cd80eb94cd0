use Rattle.std.proofs.Common.{◌≡◌, ℕ, [], vec_len}
use Rattle.plain_run.specs.Tables.{object_in}
use Rattle.plain_run.proofs.table.empty_objects.Given as goal

abbrev pub invariant-loop : goal.invariant-loop
invariant-loop l = (vec_len l.objects ≡ l.counter) × ((b : ℕ) → object_in l.objects.items b ≡ [])
