use mathlib.Core.List.{IsPrefix}
use Rattle.version_words.specs.Views.{Goes}
use Rattle.far_object.specs.Buckets.{bucket}
use Rattle.table_core.specs.Maps.{key_of}
use Rattle.table_core.specs.Lent.{lent}
use Rattle.hash_table.specs.Steps.{IsOfFrame, GaveUp}
use Rattle.hash_table.proofs.table.FarTable.change.Given as goal

abbrev pub invariant-loop : goal.invariant-loop
invariant-loop g l = record { goes : Goes l.fn.caller.pass l.caller.pass; limbo : IsPrefix l.fn.caller.limbo l.caller.limbo; left : GaveUp (IsOfFrame l.fn.self.frames (bucket g.K.FarObject.enc g.J.Naming.limits.buckets (key_of (lent l.fn.operation)))) l.fn.caller.limbo l.caller.limbo }
