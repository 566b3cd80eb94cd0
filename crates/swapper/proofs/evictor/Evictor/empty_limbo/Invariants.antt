use Rattle.std.proofs.Common.{List, []}
use Rattle.version_words.specs.Views.{SpareView}
use Rattle.swapper.specs.Evictors.{Tried}
use Rattle.swapper.proofs.evictor.Evictor.empty_limbo.Given as goal

abbrev pub invariant-loop : goal.invariant-loop
invariant-loop g l = (went : List (SpareView g.row.K.Denot g.row.V.Denot)) × Tried l.fn.self l.self went [] l.fn.failed l.all.reclaimed l.all.failed
