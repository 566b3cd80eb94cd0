use mathlib.Core.List.{IsPrefix}
use Rattle.version_words.specs.Views.{Goes}
use Rattle.far_object.specs.Buckets.{bucket}
use Rattle.hash_table.specs.Steps.{IsOfFrame, GaveUp}
use Rattle.hash_table.proofs.table.FarTable.remove_if.Given as goal

abbrev pub invariant-loop : goal.invariant-loop
invariant-loop g l = record { goes : Goes l.fn.caller.pass l.caller.pass; limbo : IsPrefix l.fn.caller.limbo l.caller.limbo; left : GaveUp (IsOfFrame l.fn.self.frames (bucket g.K.FarObject.enc g.J.Naming.limits.buckets l.fn.key)) l.fn.caller.limbo l.caller.limbo }
