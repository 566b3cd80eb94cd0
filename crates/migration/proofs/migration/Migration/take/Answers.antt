use Rattle.std.proofs.Common.{rules}
use Rattle.migration.proofs.Parting.{popped_is, taken_near, taken_far, lost_far}
use Rattle.migration.proofs.migration.Migration.take.Goals as goal

pub returns-in-Some-clause-taken : goal.returns-in-Some-clause-taken
returns-in-Some-clause-taken g c =
    let near = c.self.inside.near.items in
    let shown = c.deref.result.now in
    let item = c.in-Some.ensures.item in
    let found = popped_is near shown _ c.pop.result c.in-Some.object.now c.deref.ensures.value c.deref.ensures.len item.1 item.3.0 (c.pop.ensures.value c.in-Some.object.now) in
    taken_near _ _ c.args.self.now c.in-Some.object.now c.in-Ok.pairs.items near c.pop.new.self.items c.pop.result c.self.view_is c.pop.ensures.items found c.in-Ok.ensures

pub returns-in-Ok-take_object-clause-taken : goal.returns-in-Ok-take_object-clause-taken
returns-in-Ok-take_object-clause-taken g c =
    taken_far g.K.FarObject.enc g.V.FarObject.enc g.K.FarObject.dec g.V.FarObject.dec _ (g.D.Device.state c.self.inside.device).contents (g.D.Device.state c.take_object.new.device).contents c.self.inside.far c.in_ok-last.last c.self.inside.near.items c.args.self.now c.in-Ok-take_object.pairs.items
    c.self.view_is c.in-Ok-take_object.ensures.others (search rules) c.in-Ok-take_object.ensures.honest

pub returns-in-Err-Lost-clause-untaken : goal.returns-in-Err-Lost-clause-untaken
returns-in-Err-Lost-clause-untaken g c =
    lost_far g.K.FarObject.enc g.V.FarObject.enc g.K.FarObject.dec g.V.FarObject.dec (g.D.Device.state c.self.inside.device).contents (g.D.Device.state c.take_object.new.device).contents c.self.inside.far c.in_ok-last.last c.self.inside.near.items c.args.self.now
    c.self.view_is c.in-Err-Lost.ensures.stays (search rules)
