use Rattle.std.proofs.Common.{◌≡◌}
use Rattle.far_map.specs.Loads.{IsLoading, lost_of}
use Rattle.far_map.proofs.load.put_all.Given as goal

abbrev pub invariant-loop : goal.invariant-loop
invariant-loop g l = IsLoading g.D.Device.HONEST l.fn.rest l.rest (g.S.Calls.shown l.fn.me).pass (g.S.Calls.shown l.me).pass (lost_of l.load_report) × (lost_of l.load_report ≡ 0 → lost_of l.fn.before ≡ 0)
