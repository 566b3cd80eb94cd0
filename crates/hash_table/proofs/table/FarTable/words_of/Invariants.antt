use Rattle.table_core.specs.Lawful.{IsLawful}
use Rattle.version_words.specs.Views.{Goes}
use Rattle.hash_table.proofs.table.FarTable.words_of.Given as goal

abbrev pub invariant-loop-at : goal.invariant-loop-at
invariant-loop-at g l = record { goes : Goes l.fn.pass l.pass; lawful : IsLawful g.K.FarObject.enc g.V.FarObject.enc g.J.Naming.limits l.pass.front }
