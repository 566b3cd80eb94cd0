use Rattle.std.proofs.Common.{◌≡◌, ◌+◌}
use Rattle.version_words.specs.Rows.{AreWords}
use Rattle.version_words.proofs.words.opening.Opened.open.Given as goal

abbrev pub invariant-loop-k : goal.invariant-loop-k
invariant-loop-k g l =
    (l.pens.book ≡ l.seen.book) × (l.pens.next ≡ l._k) × (l.pens.left + l._k ≡ l.count + 2)
    × AreWords l.seen.book l._k l.buckets.items
