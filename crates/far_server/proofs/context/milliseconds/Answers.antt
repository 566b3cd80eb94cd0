use Rattle.far_server.specs.Looks.{was_looked_at}
use Rattle.far_server.proofs.context.milliseconds.Goals as goal

pub returns : goal.returns
returns g c = was_looked_at c.milliseconds_of.result
