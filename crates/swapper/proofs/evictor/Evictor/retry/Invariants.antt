use Rattle.std.proofs.Common.{◌≡◌, length}
use Rattle.swapper.proofs.Collecting.{Retrying}
use Rattle.swapper.proofs.evictor.Evictor.retry.Given as goal

abbrev pub invariant-loop-k : goal.invariant-loop-k
invariant-loop-k g l = record {
  retrying : Retrying l.fn.self l.self l._k l.all.reclaimed l.all.failed;
  count : l.count ≡ length l.fn.self.kept;
}
