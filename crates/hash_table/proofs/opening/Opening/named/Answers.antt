use Rattle.std.proofs.Common.{ap, sym, ◌∙◌}
use Rattle.hash_table.specs.Openings.{was_opened}
use Rattle.hash_table.proofs.opening.Opening.named.Goals as goal

pub invariant_of-result : goal.invariant_of-result
invariant_of-result g c = record { honest = ap (λ l. l.honest) (sym c.requires.limits) }

pub returns-clause-lanes : goal.returns-clause-lanes
returns-clause-lanes g c = rw (← c.self.view_is) (c.in-Ok-open.ensures.count ∙ sym c.self.inside.settled.lanes)

pub returns-clause-opened : goal.returns-clause-opened
returns-clause-opened g c = was_opened c.args.self.config
