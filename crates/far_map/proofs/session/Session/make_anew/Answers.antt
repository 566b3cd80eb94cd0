use Rattle.std.proofs.Common.{arith}
use Rattle.far_map.proofs.session.Session.make_anew.Goals as goal

pub returns : goal.returns
returns g c = (c.loop.counter, omega (arith, c.loop-test.false, c.loop.auto.counter-end), c.loop.invariant)
