use Rattle.std.proofs.Common.{◌≡◌}
use Rattle.table_core.specs.Lent.{lent_value}
use Rattle.far_map.specs.Updates.{AreOvertaken}
use Rattle.far_map.proofs.session.Session.make_anew.Given as goal

abbrev pub invariant-loop : goal.invariant-loop
invariant-loop g l = AreOvertaken g.V.FarObject.enc g.J.Naming.limits l.key (λ found made. (lent : _) × (lent_value lent ≡ found) × goal.F-post g l.make lent made) l.counter l.fn.self l.self
