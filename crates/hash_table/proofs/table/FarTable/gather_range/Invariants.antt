use Rattle.std.proofs.Common.{◌≡◌}
use Rattle.hash_table.proofs.Ends.{Gathered}
use Rattle.hash_table.proofs.table.FarTable.gather_range.Given as goal

abbrev pub invariant-loop-i : goal.invariant-loop-i
invariant-loop-i g l = record {
  so : Gathered g.K.FarObject.enc g.V.FarObject.enc g.J.Naming.limits g.J.Naming.limits.honest l.mark l.fn.caller.pass l.caller.pass (g.G.Gathering.gathered l.all) l.from l.i;
  limbo : l.caller.limbo ≡ l.fn.caller.limbo;
}
