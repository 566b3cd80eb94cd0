use Rattle.table_core.specs.Lent.{lent_value}
use Rattle.table_core.proofs.Belonging.{BelongFrom}
use Rattle.table_core.proofs.contents.belong.Given as goal

abbrev pub invariant-loop-pair : goal.invariant-loop-pair
invariant-loop-pair g l = BelongFrom g.K.FarObject.enc l.buckets l.bucket l.pairs (lent_value l.last) l.pair-index
