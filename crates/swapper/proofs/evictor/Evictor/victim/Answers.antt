use Rattle.std.proofs.Common.{◌∙◌, refl, length}
use Rattle.swapper.proofs.Collecting.{asked_goes}
use Rattle.swapper.proofs.evictor.Evictor.victim.Goals as goal

pub invariant_of-self : goal.invariant_of-self
invariant_of-self g c =
    let w = c.walk.ensures.walked in
    let i = c.self.invariant in
    let a = asked_goes (length c.self.inside.clock.marks) c.self.inside.clock.hand w.0 c.self.inside.caller c.walk.new.state w.2 in
    (a.0.calls_stay ∙ i.0, i.1)

pub returns : goal.returns
returns g c =
    let w = c.walk.ensures.walked in
    let a = asked_goes (length c.self.inside.clock.marks) c.self.inside.clock.hand w.0 c.self.inside.caller c.walk.new.state w.2 in
    rw (← c.self.view_is) (record {
      goes = a.0;
      asked = w.0;
      walked = w.1;
      kept = refl;
      limbo = a.1;
      seat = refl;
      room = refl;
    })
