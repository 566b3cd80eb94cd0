use Rattle.std.proofs.Common.{rules}
use Rattle.std.specs.Option.{option_to_list}
use Rattle.migration.proofs.Parting.{lost, last_of, kept_far}
use Rattle.migration.proofs.migration.Migration.pass_over.Goals as goal

pub returns-then-is_none : goal.returns-then-is_none
returns-then-is_none g c =
    lost g.K.FarObject.enc g.V.FarObject.enc g.K.FarObject.dec g.V.FarObject.dec (g.D.Device.state c.self.inside.device).contents c.self.inside.far c.saturating_sub-self-inside.result c.self.inside.near.items c.pop.new.self.items (option_to_list c.pop.result) c.args.self.now
    c.self.view_is c.pop.ensures.items (last_of _ _ _ _ (g.D.Device.state c.self.inside.device).contents c.self.inside.far c.saturating_sub-self-inside.result (search rules))

pub returns-else-is_none : goal.returns-else-is_none
returns-else-is_none g c =
    lost g.K.FarObject.enc g.V.FarObject.enc g.K.FarObject.dec g.V.FarObject.dec (g.D.Device.state c.self.inside.device).contents c.self.inside.far c.self.inside.far c.self.inside.near.items c.pop.new.self.items (option_to_list c.pop.result) c.args.self.now
    c.self.view_is c.pop.ensures.items (kept_far _ _ _ _ (g.D.Device.state c.self.inside.device).contents c.self.inside.far)
