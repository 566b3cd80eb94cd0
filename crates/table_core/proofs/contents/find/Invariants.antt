use Rattle.table_core.proofs.Places.{IsFrom}
use Rattle.table_core.proofs.contents.find.Given as goal

abbrev pub invariant-loop-at : goal.invariant-loop-at
invariant-loop-at g l = IsFrom g.K.FarObject.enc l.key l.pairs l.at
