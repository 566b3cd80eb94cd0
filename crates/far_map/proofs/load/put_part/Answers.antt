use Rattle.std.proofs.Common.{arith}
use Rattle.migration.specs.Parts.{Takes}
use Rattle.far_map.specs.Loads.{lost_of}
use Rattle.far_map.proofs.Carrying.{none_is, some_is, loading_less, loading_more}
use Rattle.far_map.proofs.load.put_part.Goals as goal

pub returns-in_default-part-clause-loads : goal.returns-in_default-part-clause-loads
returns-in_default-part-clause-loads g c = λ waited first h.
    loading_less g.D.Device.HONEST waited c.args.rest.now c.next_part.new.rest first (g.S.Calls.shown c.args.me.now).pass (g.S.Calls.shown c.next_part.new.me).pass (lost_of c.args.load_report.now) _ h c.next_part.ensures.goes
    (none_is c.in-Some.part c.in_default-part.is c.in-Some.ensures.lost) (λ none. omega (arith, none, c.saturating_add-load_report.ensures))

pub returns-clause-loads : goal.returns-clause-loads
returns-clause-loads g c = λ waited first h.
    loading_more g.D.Device.HONEST waited c.args.rest.now c.next_part.new.rest c.in-Some-part.pairs.items first (g.S.Calls.shown c.args.me.now).pass (g.S.Calls.shown c.next_part.new.me).pass (g.S.Calls.shown c.put_each-refused.new.me).pass
    (lost_of c.args.load_report.now) c.put_each-refused.result _ h c.next_part.ensures.goes
    (some_is (λ pairs. Takes g.D.Device.HONEST c.args.rest.now c.next_part.new.rest pairs.items) c.in-Some.part c.in-Some-part.pairs c.in-Some-part.is c.in-Some.ensures.taken) c.put_each-refused.ensures
    (λ none. omega (arith, none, c.saturating_add-load_report-3.ensures)) (λ none. omega (arith, none, c.saturating_add-load_report-3.ensures))
