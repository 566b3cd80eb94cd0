use Rattle.std.proofs.Common.{sym}
use Rattle.far_map.proofs.session.Session.visit_all.Goals as goal

pub returns-clause-visits : goal.returns-clause-visits
returns-clause-visits g c = rw (sym c.self.view_is) c.visit_map.ensures.visits
