use Rattle.std.proofs.Common.{◌∙◌, ap}
use Rattle.std.specs.FinMap.{get}
use Rattle.migration.proofs.Parting.{removed_either}
use Rattle.migration.proofs.spool.take_object.Goals as goal

pub returns-clause-others : goal.returns-clause-others
returns-clause-others g c = λ other ne.
    removed_either _ _ c.args.id c.remove.result c.remove.ensures.removes other ne ∙ ap (λ contents. get contents other) c.in_ok-bytes.ensures.kept
