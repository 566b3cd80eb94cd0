use Rattle.std.proofs.Common.{◌∙◌}
use Rattle.migration.proofs.Parting.{added_near}
use Rattle.migration.proofs.migration.Migration.add_near.Goals as goal

pub returns-clause-added : goal.returns-clause-added
returns-clause-added g c =
    added_near _ _ _ c.in-Ok.copy _ _ c.self.view_is (c.in-Ok.ensures.only c.args.object.now (c.in_ok-bytes.ensures.items ∙ c.as_bytes.ensures.is) c.as_bytes.ensures.map) c.in_ok-push.ensures.items
