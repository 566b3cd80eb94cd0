use Rattle.std.proofs.Common.{◌≡◌, length}
use Rattle.version_words.proofs.Gathering.{AreListed}
use Rattle.version_words.proofs.words.all_passes.are_apart.Given as goal

abbrev pub invariant-loop-k : goal.invariant-loop-k
invariant-loop-k g l = record {
  same : l.holders ≡ l.fn.holders;
  room : length l.holder_of.items ≡ l.drawn;
  listed : AreListed g.H.PassHolder.pass_of l.holder_of.items l.holders l.k;
}
