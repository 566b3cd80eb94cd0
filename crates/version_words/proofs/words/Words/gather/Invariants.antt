use Rattle.std.proofs.Common.{◌<◌, ℕ, slice_index_or}
use Rattle.version_words.proofs.Gathering.{IsHeard, Learned}
use Rattle.version_words.proofs.words.Words.gather.Given as goal

abbrev pub invariant-loop-k : goal.invariant-loop-k
invariant-loop-k g l = (j : ℕ) (d : g.row.H.Denot) → j < l.k → IsHeard l.mark (g.H.PassHolder.pass_of (slice_index_or l.holders j d))

abbrev pub invariant-loop-k-2 : goal.invariant-loop-k-2
invariant-loop-k-2 g l = Learned g.H.PassHolder.pass_of g.H.PassHolder.with_pass l.mark l.fn.holders l.holders l.k
