use Rattle.std.proofs.Common.{◌≡◌}
use Rattle.hash_table.proofs.Drains.{Draining}
use Rattle.hash_table.proofs.table.FarTable.drain_buckets.Given as goal

abbrev pub invariant-loop-bucket : goal.invariant-loop-bucket
invariant-loop-bucket g l = record {
  so : Draining g.K.FarObject.enc g.V.FarObject.enc g.J.Naming.limits l.mark l.fn.caller.pass l.caller.pass l.bucket l.fn.rest l.rest l.lost;
  limbo : l.caller.limbo ≡ l.fn.caller.limbo;
  lanes : l.self.lanes ≡ l.fn.self.lanes;
}
