use Rattle.std.proofs.Common.{◌≤◌, take}
use Rattle.std.specs.List.{AllByRecursion}
use Rattle.resp.specs.Requests.{IsPlain}
use Rattle.resp.proofs.inline.plain_len.Given as goal

abbrev pub invariant-loop-at : goal.invariant-loop-at
invariant-loop-at l = record {
  few : l.at ≤ l.most;
  plain : AllByRecursion IsPlain (take l.at l.bytes);
}
