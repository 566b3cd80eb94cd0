use Rattle.std.proofs.Common.{◌≡◌, vec_len}
use Rattle.far_driver.proofs.lanes.open_lanes.Given as goal

abbrev pub invariant-loop : goal.invariant-loop
invariant-loop l = vec_len l.devices ≡ l.counter
