use Rattle.std.proofs.Common.{◌≤◌, take}
use Rattle.std.specs.List.{AllByRecursion}
use Rattle.resp.specs.Replies.{IsTextByte}
use Rattle.resp.proofs.text.text_len.Given as goal

abbrev pub invariant-loop-at : goal.invariant-loop-at
invariant-loop-at l = record {
  few : l.at ≤ l.most;
  plain : AllByRecursion IsTextByte (take l.at l.bytes);
}
