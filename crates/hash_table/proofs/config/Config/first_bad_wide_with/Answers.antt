use Rattle.std.proofs.Common.{ℕ, Option, ap, ◌∙◌, ◌==◌}
use Rattle.hash_table.specs.Configs.{or_lanes}
use Rattle.hash_table.proofs.Settings.{usual_is_wide}
use Rattle.hash_table.proofs.config.Config.first_bad_wide_with.Goals as goal

pub returns-clause-usual : goal.returns-clause-usual
returns-clause-usual c = λ usual.
    c.or_lanes.ensures ∙ (ap (λ (first : Option ℕ). or_lanes first (c.args.self.now.lanes == c.args.devices)) c.first_bad_wide.ensures ∙ usual_is_wide c.args.devices c.args.self.now usual)
