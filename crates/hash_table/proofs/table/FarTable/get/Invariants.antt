use mathlib.Core.List.{IsPrefix}
use Rattle.version_words.specs.Views.{Goes}
use Rattle.hash_table.proofs.table.FarTable.get.Given as goal

abbrev pub invariant-loop : goal.invariant-loop
invariant-loop g l = record { goes : Goes l.fn.caller.pass l.caller.pass; limbo : IsPrefix l.fn.caller.limbo l.caller.limbo }
