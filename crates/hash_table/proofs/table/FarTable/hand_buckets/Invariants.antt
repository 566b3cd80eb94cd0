use Rattle.std.proofs.Common.{◌≡◌}
use Rattle.hash_table.proofs.Takers.{HandedOver}
use Rattle.hash_table.proofs.table.FarTable.hand_buckets.Given as goal

abbrev pub invariant-loop-bucket : goal.invariant-loop-bucket
invariant-loop-bucket g l = record {
  so : HandedOver g.K.FarObject.enc g.V.FarObject.enc g.J.Naming.limits g.T.TakesPairs.takes g.J.Naming.limits.honest l.mark l.fn.caller.pass l.caller.pass l.fn.taker l.taker l.bucket;
  limbo : l.caller.limbo ≡ l.fn.caller.limbo;
}
