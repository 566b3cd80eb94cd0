use Rattle.std.proofs.Common.{◌≤◌, vec_len, vec_capacity}
use Rattle.resp.proofs.Words.{HasWords}
use Rattle.resp.proofs.inline.push_words.Given as goal

abbrev pub invariant-loop-at : goal.invariant-loop-at
invariant-loop-at l = record {
  has : HasWords l.bytes l.fn.end l.from l.at l.spans.items;
  few : vec_len l.spans ≤ l.from;
  room : vec_capacity l.initial.spans ≤ vec_capacity l.spans;
}
